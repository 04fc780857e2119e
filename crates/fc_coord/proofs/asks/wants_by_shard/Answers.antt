use Rattle.std.proofs.Common.{◌≡◌, ◌<◌, [], map, length, sym, ◌∙◌, ap, subst, All, arith}
use Rattle.std.proofs.lemmas.List.{length-map, nil_from_length}
use Rattle.std.proofs.lemmas.List.FromFn.{length-range_with_len}
use Rattle.std.proofs.lemmas.List.Elements.{All-rest}
use Rattle.fc_spec.specs.messages.Rounds.{wants_of}
use Rattle.fc_spec.specs.words.Lists.{numbers_below}
use Rattle.fc_refine.specs.AskView.{want_view, wants_view}
use Rattle.fc_lacks.specs.LackView.{lack_view}
use Rattle.fc_lacks.specs.declared.lacks.Lack.{Lack}
use Rattle.fc_coord.specs.View.{all_wants_view}
use Rattle.fc_coord.proofs.ShardLists.{joined, joined_step, joined_nothing, joined_all, length-with_want}
use Rattle.fc_coord.proofs.asks.wants_by_shard.Goals as goal

pub loop-lack-init : goal.loop-lack-init
loop-lack-init c =
    let rest : c.into_iter-lack-iterator.result.rest.items ≡ c.args.lacks.items = c.into_iter-lack-iterator.ensures.into_iter_gives.0 in
    record {
      wants = (λ j. joined 0 (c.in_ok-wants.ensures j) (map lack_view (rest j))) ∙ joined_all 0 c.args.shards (map lack_view c.args.lacks.items);
      shards = sym (length-map c.in_ok-wants.wants.items (λ list. wants_view list.items)) ∙ ap length c.in_ok-wants.ensures ∙ length-map (numbers_below c.args.shards) (λ i. wants_of i []) ∙ length-range_with_len 0 c.args.shards;
      there = subst (All (λ (l : Lack). l.shard < c.args.shards)) (sym rest) c.requires;
    }

pub loop-lack-preserved : goal.loop-lack-preserved
loop-lack-preserved c =
    let first = c.in-Some.ensures.steps.0 in
    let wants = c.in_ok-add_want.ensures in
    record {
      wants = ap (λ ws. joined 0 ws (map lack_view c.next.new.self.rest.items)) wants
          ∙ sym (joined_step 0 c.in-Some.lack.shard (all_wants_view c.loop-lack.wants.items) (lack_view c.in-Some.lack) (map lack_view c.next.new.self.rest.items) (omega arith))
          ∙ ap (λ ls. joined 0 (all_wants_view c.loop-lack.wants.items) (map lack_view ls)) (sym first) ∙ c.loop-lack.invariant.wants;
      shards = sym (length-map c.add_want.new.wants.items (λ list. wants_view list.items)) ∙ ap length wants ∙ length-with_want c.in-Some.lack.shard (want_view c.in-Some.lack.want) (all_wants_view c.loop-lack.wants.items)
          ∙ length-map c.loop-lack.wants.items (λ list. wants_view list.items) ∙ c.loop-lack.invariant.shards;
      there = All-rest (λ (l : Lack). l.shard < c.args.shards) c.in-Some.lack c.next.new.self.rest.items c.loop-lack.lack-iterator.rest.items first c.loop-lack.invariant.there;
    }

pub returns : goal.returns
returns c =
    let none : c.loop-lack.lack-iterator.rest.items ≡ [] = nil_from_length c.loop-lack.lack-iterator.rest.items (sym c.loop-lack.lack-iterator.rest.ok.0 ∙ c.in-None.ensures.steps.0) in
    sym (joined_nothing 0 (all_wants_view c.loop-lack.wants.items)) ∙ ap (λ ls. joined 0 (all_wants_view c.loop-lack.wants.items) (map lack_view ls)) (sym none) ∙ c.loop-lack.invariant.wants

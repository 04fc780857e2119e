-- What shards send, in a list.
use Rattle.std.proofs.Common.{◌≡◌, List, [], ◌∷◌, ◌++◌, append_assoc, append-nil, sym, subst}
use Rattle.fc_spec.specs.messages.Nesting.{Spells}
use Rattle.fc_round.specs.Questions.{ShardAnswer}
use Rattle.fc_round.specs.Responses.{SpellAnswers}
use Rattle.fc_round.specs.declared.response.Response.{Response}

-- with whatever spells the answers that are left they spell all
abbrev pub SpellSoFar : List Response → (left all : List ShardAnswer) → Type 0
SpellSoFar responses left all = (more : List Response) → SpellAnswers more left → SpellAnswers (responses ++ more) all

pub none_so_far : (left all : List ShardAnswer) → left ≡ all → SpellSoFar [] left all
none_so_far left all same more spelled = subst (SpellAnswers more) same spelled

pub one_so_far : (responses : List Response) (one : Response) (a : ShardAnswer) (left all : List ShardAnswer) → one.shard ≡ a.shard → Spells one.bytes.items a.message → SpellSoFar responses (a ∷ left) all → SpellSoFar (responses ++ one ∷ []) left all
one_so_far responses one a left all shard bytes was more spelled =
    subst (λ rs. SpellAnswers rs all) (sym (append_assoc responses (one ∷ []) more)) (was (one ∷ more) (shard, bytes, spelled))

pub all_so_far : (responses : List Response) (left all : List ShardAnswer) → left ≡ [] → SpellSoFar responses left all → SpellAnswers responses all
all_so_far responses left all none was = subst (λ rs. SpellAnswers rs all) (append-nil responses) (was [] (subst (SpellAnswers []) (sym none) tt))

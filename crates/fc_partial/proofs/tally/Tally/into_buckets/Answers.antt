use Rattle.std.proofs.Common.{◌≡◌, ◌++◌, ◌∙◌, List, map, ap, append_assoc}
use Rattle.std.proofs.lemmas.List.{map-append}
use Rattle.fc_partial.specs.BucketView.{Part, bare_part, bucket_view, linked}
use Rattle.fc_partial.specs.TallyParts.{keyed, long_key, text_key}
use Rattle.fc_partial.specs.View.{key_view}
use Rattle.fc_partial.proofs.BareBuckets.{linked_bare}
use Rattle.fc_partial.proofs.TallyEntries.{is_tally}
use Rattle.fc_partial.proofs.tally.Tally.into_buckets.Goals as goal

pub returns-in_err-buckets-clause-tally : goal.returns-in_err-buckets-clause-tally
returns-in_err-buckets-clause-tally c = rw (← c.self.view_is) (is_tally c.self.inside c.self.invariant)

pub returns-in_err-push_buckets-clause-tally : goal.returns-in_err-push_buckets-clause-tally
returns-in_err-push_buckets-clause-tally c = rw (← c.self.view_is) (is_tally c.self.inside c.self.invariant)

pub returns-in_err-push_buckets-2-clause-tally : goal.returns-in_err-push_buckets-2-clause-tally
returns-in_err-push_buckets-2-clause-tally c = rw (← c.self.view_is) (is_tally c.self.inside c.self.invariant)

pub returns-in_err-push_buckets-3-clause-tally : goal.returns-in_err-push_buckets-3-clause-tally
returns-in_err-push_buckets-3-clause-tally c = rw (← c.self.view_is) (is_tally c.self.inside c.self.invariant)

pub returns-clause-tally : goal.returns-clause-tally
returns-clause-tally c = rw (← c.self.view_is) (is_tally c.self.inside c.self.invariant)

-- three lists one behind another, as they are pushed and as they stand
three : {X Y : Type 0} (f : X → Y) (xs ys zs : List X) → (map f xs ++ map f ys) ++ map f zs ≡ map f (xs ++ (ys ++ zs))
three f xs ys zs = simp (map-append, append_assoc)

pub returns-clause-buckets : goal.returns-clause-buckets
returns-clause-buckets c =
    let L = keyed long_key c.self.inside.longs in
    let T = keyed text_key c.self.inside.texts in
    let O = keyed key_view c.self.inside.others in
    let all : map bucket_view c.push_buckets-3.new.buckets.items ≡ map bare_part (L ++ (T ++ O)) =
    c.in_ok-push_buckets-3.ensures
    ∙ ap (λ (l : List Part). l ++ map bare_part O) (c.in_ok-push_buckets-2.ensures
    ∙ ap (λ (l : List Part). l ++ map bare_part T) (c.in_ok-push_buckets.ensures ∙ ap (λ (l : List _). map bucket_view l ++ map bare_part L) c.in_ok-buckets.ensures.items))
    ∙ three bare_part L T O in
    rw (← c.self.view_is) (ap linked all ∙ linked_bare (L ++ (T ++ O)))

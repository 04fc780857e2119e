use Rattle.std.proofs.Common.{◌≡◌, ◌∷◌, ◌++◌, [], All, IsTrue, true, false, ap, sym, subst, ◌∙◌, append-nil}
use Rattle.std.specs.Prelude.{if◌then◌else◌}
use Rattle.std.specs.Map.{keys_of}
use Rattle.fc_spec.specs.requests.Buckets.{is_key_of, missing}
use Rattle.fc_spec.specs.requests.Ranks.{offered_bound}
use Rattle.fc_spec.specs.requests.Request.{terms, stats_of}
use Rattle.fc_facet.specs.KindView.{terms_view}
use Rattle.fc_partial.specs.BucketView.{bare, bare_part, bucket_view, buckets_view}
use Rattle.fc_refine.specs.Tops.{top_of}
use Rattle.fc_request.specs.FacetNode.{kind_view}
use Rattle.fc_request.specs.NodeView.{inner_view}
use Rattle.fc_answers.specs.Listed.{entry_or_none, listed_of}
use Rattle.fc_answers.specs.LeastListed.{adds_missing}
use Rattle.fc_jobs.proofs.FilledEntries.{listed_is, pushed}
use Rattle.fc_jobs.proofs.ListedKeys.{have_keys}
use Rattle.fc_jobs.proofs.listing.values_listed.Goals as goal

pub returns-then-not-adds-clause-list : goal.returns-then-not-adds-clause-list
returns-then-not-adds-clause-list c =
    let t = terms_view c.args.terms.now in
    let es = c.args.tally.entries in
    let inner = inner_view c.args.node.now in
    let own = have_keys (terms t) es (subst (λ k. All (λ key. IsTrue (is_key_of (kind_view k) key)) (keys_of es)) c.requires.terms c.requires.keys) in
    let adds : adds_missing t inner es ≡ false = sym c.adds_missing-adds.ensures.adds ∙ c.if-not-adds.true in
    let top = top_of t.sort (offered_bound t) es in
    let is : listed_of (terms t) inner es ≡ top = listed_is t inner es own c.adds_missing-adds.ensures.tally.ascend ∙ ap (λ b. top ++ (if b then entry_or_none (stats_of inner) es missing ∷ [] else [])) adds ∙ append-nil top in
    c.in_ok-list.ensures.buckets c.args.terms.now c.requires.terms ∙ ap (λ b. bare (top_of t.sort b es)) c.offered.ensures ∙ sym (ap bare is)

pub returns-clause-list : goal.returns-clause-list
returns-clause-list c =
    let t = terms_view c.args.terms.now in
    let es = c.args.tally.entries in
    let inner = inner_view c.args.node.now in
    let own = have_keys (terms t) es (subst (λ k. All (λ key. IsTrue (is_key_of (kind_view k) key)) (keys_of es)) c.requires.terms c.requires.keys) in
    let adds : adds_missing t inner es ≡ true = sym c.adds_missing-adds.ensures.adds ∙ c.if-not-adds.false in
    let top = top_of t.sort (offered_bound t) es in
    let one = entry_or_none (stats_of inner) es missing in
    let is : listed_of (terms t) inner es ≡ top ++ one ∷ [] = listed_is t inner es own c.adds_missing-adds.ensures.tally.ascend ∙ ap (λ b. top ++ (if b then one ∷ [] else [])) adds in
    let values : buckets_view c.in_ok-list-2.list.items ≡ bare top = c.in_ok-list-2.ensures.buckets c.args.terms.now c.requires.terms ∙ ap (λ b. bare (top_of t.sort b es)) c.offered-2.ensures in
    let last : bucket_view c.in_ok-missing.missing ≡ bare_part one = c.in_ok-missing.ensures.bucket ∙ ap (λ ss. bare_part (entry_or_none ss es missing)) c.requires.stats in
    ap buckets_view c.in_ok-push.ensures.items ∙ pushed c.in_ok-list-2.list.items c.in_ok-missing.missing top one values last ∙ sym (ap bare is)

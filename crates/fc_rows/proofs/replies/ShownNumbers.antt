-- Numbers of values and of buckets: of all values, whatever the limit, and each value over all shards.
use Rattle.std.specs.Prelude.{◌≡◌, [], ◌∷◌, refl, codes}
use Rattle.fc_spec.specs.requests.Request.{Terms, terms, no_nodes, facet, Request}
use Rattle.fc_spec.specs.requests.Spread.{number_facet, beside_facet, IsSpread}
use Rattle.fc_spec.specs.replies.Distributed.{distributed}
use Rattle.fc_spec.specs.replies.Tops.{tops_of, replaced}
use Rattle.fc_spec.specs.replies.Restored.{restored}
use Rattle.fc_spec.specs.replies.Folded.{folded}
use Rattle.fc_spec.specs.replies.Replied.{replied}
use Rattle.fc_spec.specs.replies.Numbers.{numbered}
use Rattle.fc_spec.specs.replies.Json.{facets_text}
use Rattle.fc_spec.specs.scripts.Lines.{reply_line}
use Rattle.fc_rows.proofs.Words.{written, named, asking}
use Rattle.fc_rows.proofs.replies.ShortCount.{documents, first_alone}
use Rattle.fc_rows.proofs.replies.SecondEverywhere.{documents as spread_out}
use Rattle.fc_rows.proofs.replies.ExactTop.{first_exactly}

-- with numBuckets, and a unique beside the facet
abbrev pub asking_numbers : Terms → Request
asking_numbers t =
    let c = named "c" (terms t) in
    asking (facet c no_nodes (facet (beside_facet c t) no_nodes (facet (number_facet (codes "u") 1) no_nodes no_nodes)))

pub numbers : reply_line (replied (asking_numbers first_alone) documents) (1 ∷ 1 ∷ []) (codes "a")
    ≡ codes "{\"facets\":{\"c\":{\"buckets\":[{\"count\":3,\"val\":\"a\"}],\"numBuckets\":3},\"count\":9,\"u\":3},\"generations\":[1,1],\"session\":\"a\"}\n"
unfolding written
numbers = refl

-- the value has four places over both shards, and three where it is offered
pub numbers_of_four : facets_text (replied (asking_numbers (record first_alone { mincount = 4 })) documents) ≡ codes "{\"c\":{\"buckets\":[],\"numBuckets\":1},\"count\":9,\"u\":3}"
unfolding written
numbers_of_four = refl

-- so they are when counted
pub numbers_counted : facets_text (numbered (asking_numbers first_alone) documents) ≡ codes "{\"c\":{\"buckets\":[{\"count\":3,\"val\":\"a\"}],\"numBuckets\":3},\"count\":9,\"u\":3}"
unfolding written
numbers_counted = refl

-- this request is spread
pub numbers_spread : IsSpread (asking_numbers first_alone)
numbers_spread = (tt, tt, ((named "c" (terms first_alone), first_alone, refl, refl, refl, refl, refl), tt, ((1, refl, refl), tt, tt)))

-- beside an exact facet there is the number of all values too
pub numbers_of_exact : facets_text (replied (asking_numbers first_exactly) spread_out) ≡ codes "{\"c\":{\"buckets\":[{\"count\":4,\"val\":\"b\"}],\"numBuckets\":3},\"count\":10,\"u\":3}"
unfolding written
numbers_of_exact = refl

-- and the reply put together again from the replaced request folds into it
pub numbers_restored : folded (asking_numbers first_exactly)
    (restored (asking_numbers first_exactly) (tops_of (asking_numbers first_exactly) spread_out) (distributed (replaced (asking_numbers first_exactly) (tops_of (asking_numbers first_exactly) spread_out)) spread_out))
    ≡ replied (asking_numbers first_exactly) spread_out
numbers_restored = refl

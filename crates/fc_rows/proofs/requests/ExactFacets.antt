-- Facets that are refined exactly, as requests say it.
use Rattle.std.specs.Prelude.{[], ◌∷◌, true, refl}
use Rattle.fc_spec.specs.requests.RequestFault.{bad_parameter, unknown_sort}
use Rattle.fc_rows.proofs.Words.{terms_on, unlimited_on}
use Rattle.fc_rows.proofs.requests.RequestWords.{TermsRead, TermsFails, Fails, walked}

-- what is refined exactly is refined; its sort may be said, where it is by count and descending; a limit is not asked for
pub exact_said :
    TermsRead ",'refine':'exact'" (record (terms_on 1) { refine = true; exact = true })
    × TermsRead ",'refine':'exact','sort':'count'" (record (terms_on 1) { refine = true; exact = true })
    × TermsRead ",'refine':'exact','sort':{'count':'desc'}" (record (terms_on 1) { refine = true; exact = true })
    × TermsRead ",'refine':'exact','limit':-1" (record (unlimited_on 1) { refine = true; exact = true })
unfolding walked
exact_said = (refl, refl, refl, refl)

-- another text, another sort, and a facet that is not outermost; the sort's own fault comes first
pub exact_faults :
    TermsFails ",'refine':'Exact'" bad_parameter
    × TermsFails ",'refine':''" bad_parameter
    × TermsFails ",'refine':'true'" bad_parameter
    × TermsFails ",'refine':1" bad_parameter
    × TermsFails ",'refine':'exact','sort':'index'" bad_parameter
    × TermsFails ",'refine':'exact','sort':'count asc'" bad_parameter
    × TermsFails ",'refine':'exact','sort':'s','facet':{'s':'missing(cat)'}" bad_parameter
    × TermsFails ",'refine':'exact','sort':'s'" unknown_sort
    × Fails "{'facet':{'x':{'type':'query','q':'*:*','facet':{'y':{'type':'terms','field':'cat','refine':'exact'}}}}}" ("x" ∷ "y" ∷ []) bad_parameter
unfolding walked
exact_faults = (refl, refl, refl, refl, refl, refl, refl, refl, refl)

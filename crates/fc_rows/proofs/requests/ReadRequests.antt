-- What requests are read. Fields: 0 is `id`, 1 the text `cat`, 2 the integer `n`.
use Rattle.std.specs.Prelude.{[], ◌∷◌, true, false, pos, negsuc, Some, codes, refl}
use Rattle.fc_spec.specs.queries.Query.{all}
use Rattle.fc_spec.specs.requests.Request.{parents, children, sum, missing, terms, range, query, no_nodes, statistic, facet}
use Rattle.fc_rows.proofs.Words.{terms_on, unlimited_on, range_on, stat, says, named, changed, no_change, index_asc, by_first, untagged, tagged}
use Rattle.fc_rows.proofs.requests.RequestWords.{IsRead, XRead, TermsRead, of_nodes, commanding, domain_with, walked}

-- ---- what is not said
pub nothing_said : IsRead (codes "{}") (of_nodes no_nodes) × IsRead (codes "{'query':'*:*','filter':[],'limit':0,'facet':{}}") (of_nodes no_nodes)
unfolding walked
nothing_said = (refl, refl)

-- ---- a query and filters, tagged and not
pub queries_and_filters :
    IsRead (codes "{'query':'cat:a'}") (record { query = says 1 "a"; filters = []; nodes = no_nodes })
    × IsRead (codes "{'filter':'cat:a'}") (record { query = all; filters = untagged (says 1 "a") ∷ []; nodes = no_nodes })
    × IsRead (codes "{'filter':'{!tag=A}cat:a'}") (record { query = all; filters = tagged "A" (says 1 "a") ∷ []; nodes = no_nodes })
    × IsRead (codes "{'filter':{'#A':'cat:a'}}") (record { query = all; filters = tagged "A" (says 1 "a") ∷ []; nodes = no_nodes })
    × IsRead (codes "{'filter':['{!tag=A,B}cat:a',{'#C':'cat:b'},'cat:c']}")
    (record { query = all; filters = record { tags = codes "A" ∷ codes "B" ∷ []; query = says 1 "a" } ∷ tagged "C" (says 1 "b") ∷ untagged (says 1 "c") ∷ []; nodes = no_nodes })
unfolding walked
queries_and_filters = (refl, refl, refl, refl, refl)

-- ---- terms with nothing but a field, and with everything
pub terms_said :
    TermsRead "" (terms_on 1)
    × TermsRead ",'method':'uif','prefix':''" (record (terms_on 1) { prefix = Some [] })
    × TermsRead ",'prefix':'a','missing':true,'refine':true,'sort':'index','mincount':2,'offset':3" (record (terms_on 1) { prefix = Some (codes "a"); missing = true; refine = true; sort = index_asc; mincount = 2; offset = 3 })
    × TermsRead ",'limit':-1,'refine':true,'overrequest':7" (record (unlimited_on 1) { refine = true })
    × XRead (codes "{'field':'n','type':'terms'}") (terms (terms_on 2))
unfolding walked
terms_said = (refl, refl, refl, refl, refl)

-- ---- queries, and statistics in both forms
pub queries_and_statistics :
    XRead (codes "{'type':'query','q':'cat:a'}") (query (says 1 "a"))
    × IsRead (commanding (codes "'sum(n)'")) (of_nodes (statistic (codes "x") (stat sum 2) no_nodes))
    × IsRead (commanding (codes "{'type':'func','func':' missing ( cat ) '}")) (of_nodes (statistic (codes "x") (stat missing 1) no_nodes))
unfolding walked
queries_and_statistics = (refl, refl, refl)

-- ---- nodes in the order of their names; a sort by a statistic directly under the facet
pub nodes_in_order :
    IsRead (codes "{'facet':{'b':'missing(id)','a':{'type':'terms','field':'cat','sort':{'t':'asc'},'facet':{'t':'sum(n)','r':{'type':'range','field':'n','start':-1,'end':1,'gap':1}}},'':'sum(n)'}}")
    (of_nodes (statistic [] (stat sum 2) (facet (named "a" (terms (record (terms_on 1) { sort = by_first false })))
    (facet (named "r" (range (range_on 2 (negsuc 0) (pos 1) (pos 1)))) no_nodes (statistic (codes "t") (stat sum 2) no_nodes)) (statistic (codes "b") (stat missing 0) no_nodes))))
unfolding walked
nodes_in_order = refl

-- ---- domain changes; those that say nothing change nothing, at every depth
pub changes :
    IsRead (commanding (domain_with "{}")) (of_nodes (facet (named "x" (query all)) no_nodes no_nodes))
    × IsRead (commanding (domain_with "{'excludeTags':'','filter':[]}")) (of_nodes (facet (named "x" (query all)) no_nodes no_nodes))
    × IsRead (commanding (domain_with "{'excludeTags':[]}")) (of_nodes (facet (named "x" (query all)) no_nodes no_nodes))
    × IsRead (commanding (domain_with "{'excludeTags':'A,b-2,_.'}")) (of_nodes (facet (changed "x" (record no_change { exclude = codes "A" ∷ codes "b-2" ∷ codes "_." ∷ [] }) (query all)) no_nodes no_nodes))
    × IsRead (commanding (domain_with "{'excludeTags':['A','A']}")) (of_nodes (facet (changed "x" (record no_change { exclude = codes "A" ∷ codes "A" ∷ [] }) (query all)) no_nodes no_nodes))
    × IsRead (commanding (domain_with "{'blockParent':'cat:p'}")) (of_nodes (facet (changed "x" (record no_change { block = parents (says 1 "p") }) (query all)) no_nodes no_nodes))
    × IsRead (commanding (domain_with "{'blockChildren':'cat:p','filter':'cat:a'}")) (of_nodes (facet (changed "x" (record no_change { block = children (says 1 "p"); filters = says 1 "a" ∷ [] }) (query all)) no_nodes no_nodes))
    × IsRead (commanding (domain_with "{'filter':['cat:a','*:*']}")) (of_nodes (facet (changed "x" (record no_change { filters = says 1 "a" ∷ all ∷ [] }) (query all)) no_nodes no_nodes))
unfolding walked
changes = (refl, refl, refl, refl, refl, refl, refl, refl)

pub changes_inside :
    IsRead (codes "{'facet':{'x':{'type':'query','q':'*:*','facet':{'y':{'type':'query','q':'*:*','domain':{'excludeTags':''}},'z':{'type':'query','q':'*:*','domain':{'excludeTags':[],'filter':'cat:a'}}}}}}")
    (of_nodes (facet (named "x" (query all)) (facet (named "y" (query all)) no_nodes (facet (changed "z" (record no_change { filters = says 1 "a" ∷ [] }) (query all)) no_nodes no_nodes)) no_nodes))
unfolding walked
changes_inside = refl

-- The requests of the worked examples, as they are written. Texts of JSON stand with ' in place of ".
use Rattle.std.specs.Prelude.{◌≡◌, List, [], ◌∷◌, map, true, false, Some, Ok, Err, option_map, refl, codes}
use Prim.Native.String.{String}
use Rattle.fc_spec.specs.documents.Schema.{FieldType, string, strings, plong, Field}
use Rattle.fc_spec.specs.queries.Query.{has}
use Rattle.fc_spec.specs.requests.Request.{Request}
use Rattle.fc_spec.specs.requests.RequestFault.{QFault, mixed_operators, unknown_field, unknown_sort, wrong_field_type, reserved_name, nested_exclude}
use Rattle.fc_spec.specs.requests.RequestReading.{request_of}
use Rattle.fc_rows.proofs.requests.RequestWords.{json_in, walked}
use Rattle.fc_rows.proofs.Words.{terms_on, limited_on}
use Rattle.fc_rows.proofs.replies.TwoDocuments as two_documents
use Rattle.fc_rows.proofs.replies.NoDocument as no_document
use Rattle.fc_rows.proofs.replies.Shop as shop
use Rattle.fc_rows.proofs.replies.ShortCount as short_count
use Rattle.fc_rows.proofs.replies.SecondEverywhere as second_everywhere
use Rattle.fc_rows.proofs.replies.NestedRefining as nested_refining
use Rattle.fc_rows.proofs.replies.LeastPrice as least_price
use Rattle.fc_rows.proofs.replies.Pages as pages
use Rattle.fc_rows.proofs.replies.RangeEnds as range_ends
use Rattle.fc_rows.proofs.replies.Families as families
use Rattle.fc_rows.proofs.replies.MissingBucket as missing_bucket
use Rattle.fc_rows.proofs.replies.WideSum as wide_sum
use Rattle.fc_rows.proofs.replies.RootCounts as root_counts
use Rattle.fc_rows.proofs.replies.Exclusions as exclusions
use Rattle.fc_rows.proofs.replies.NestedExclusion as nested_exclusion
use Rattle.fc_rows.proofs.replies.StepInside as step_inside
use Rattle.fc_rows.proofs.documents.ByteOrder as byte_order
use Rattle.fc_rows.proofs.replies.Demo as demo

abbrev field : String → FieldType → Field
field name kind = record { name = codes name; kind = kind }

-- for a schema of `id` and these fields the text is this request
abbrev Says : List Field → String → Request → Type 0
Says fields t r = option_map (request_of (record { shards = 1; fields = field "id" string ∷ fields })) (json_in t) ≡ Some (Ok r)

abbrev cats : List Field
cats = field "cat" string ∷ []

pub by_index : Says cats "{'query':'*:*','facet':{'cats':{'type':'terms','field':'cat','limit':-1,'sort':'index'}}}" two_documents.request
unfolding walked
by_index = refl

pub by_default : Says cats "{'facet':{'c':{'type':'terms','field':'cat'}}}" no_document.request
unfolding walked
by_default = refl

-- ---- the shop
pub products : Says (field "brand" string ∷ field "color" strings ∷ field "price" plong ∷ [])
    "{'query':'*:*','limit':0,'filter':['{!tag=COLOR}color:red',{'#BRAND':'brand:(acme OR zen)'}],'facet':{'brands':{'type':'terms','field':'brand','limit':3,'refine':true,'domain':{'excludeTags':'BRAND'},'facet':{'total':'sum(price)'}},'colors':{'type':'terms','field':'color','domain':{'excludeTags':['COLOR']}},'prices':{'type':'range','field':'price','start':0,'end':80,'gap':40,'facet':{'makers':{'type':'terms','field':'brand','limit':2,'refine':true}}},'total':'sum(price)'}}"
    shop.request
unfolding walked
products = refl

-- ---- offering and choosing
pub short_counts :
    Says cats "{'facet':{'c':{'type':'terms','field':'cat','limit':1,'overrequest':0}}}" (short_count.asking_one short_count.first_alone)
    × Says cats "{'facet':{'c':{'type':'terms','field':'cat','limit':1,'overrequest':0,'refine':true,'overrefine':0}}}" (second_everywhere.asking_for 0)
    × Says cats "{'facet':{'c':{'type':'terms','field':'cat','limit':1,'overrequest':1,'refine':true,'overrefine':0}}}" (second_everywhere.asking_for 1)
unfolding walked
short_counts = (refl, refl, refl)

pub two_levels : Says (field "cat" string ∷ field "size" string ∷ [])
    "{'facet':{'cats':{'type':'terms','field':'cat','limit':1,'overrequest':0,'overrefine':0,'refine':true,'facet':{'sizes':{'type':'terms','field':'size','limit':1,'overrequest':0,'overrefine':0,'refine':true}}}}}" nested_refining.request
unfolding walked
two_levels = refl

-- ---- sorts, pages and ranges
pub by_least_price :
    Says (field "cat" string ∷ field "price" plong ∷ []) "{'facet':{'c':{'type':'terms','field':'cat','sort':{'low':'asc'},'facet':{'low':'min(price)'}}}}" (least_price.by_low false)
    × Says (field "cat" string ∷ field "price" plong ∷ []) "{'facet':{'c':{'type':'terms','field':'cat','sort':'low','facet':{'low':'min(price)'}}}}" (least_price.by_low true)
unfolding walked
by_least_price = (refl, refl)

pub pages_of_three :
    Says cats "{'facet':{'c':{'type':'terms','field':'cat','limit':2}}}" (pages.asking_one (limited_on 1 2))
    × Says cats "{'facet':{'c':{'type':'terms','field':'cat','offset':5}}}" (pages.asking_one (record (terms_on 1) { offset = 5 }))
    × Says cats "{'facet':{'c':{'type':'terms','field':'cat','limit':0}}}" (pages.asking_one (limited_on 1 0))
unfolding walked
pages_of_three = (refl, refl, refl)

pub ends_of_ranges :
    Says (field "n" plong ∷ []) "{'facet':{'r':{'type':'range','field':'n','start':0,'end':10,'gap':4,'other':'all'}}}" (range_ends.asking_one range_ends.by_four)
    × Says (field "n" plong ∷ []) "{'facet':{'r':{'type':'range','field':'n','start':0,'end':10,'gap':4,'other':'all','hardend':true}}}" (range_ends.asking_one (record range_ends.by_four { hardend = true }))
    × Says (field "n" plong ∷ []) "{'facet':{'r':{'type':'range','field':'n','start':0,'end':10,'gap':4,'other':'all','include':'upper'}}}" (range_ends.asking_one (record range_ends.by_four { lower = false; upper = true }))
unfolding walked
ends_of_ranges = (refl, refl, refl)

-- ---- blocks, missing values and statistics
pub down_and_up : Says (field "brand" string ∷ field "color" string ∷ field "kind" string ∷ [])
    "{'query':'kind:p','facet':{'skus':{'type':'terms','field':'color','domain':{'blockChildren':'kind:p'},'facet':{'makers':{'type':'terms','field':'brand','domain':{'blockParent':'kind:p'}}}}}}" families.request
unfolding walked
down_and_up = refl

pub missing_values : Says cats "{'facet':{'c':{'type':'terms','field':'cat','missing':true,'facet':{'n':'countvals(id)'}}}}" missing_bucket.request
unfolding walked
missing_values = refl

pub one_sum : Says (field "p" plong ∷ []) "{'facet':{'s':'sum(p)'}}" wide_sum.request
unfolding walked
one_sum = refl

pub in_byte_order : Says (field "t" strings ∷ []) "{'facet':{'t':{'type':'terms','field':'t','sort':'index'},'v':'countvals(t)'}}" byte_order.request
unfolding walked
in_byte_order = refl

-- ---- queries
abbrev colored : List Field
colored = field "color" string ∷ field "size" plong ∷ []

pub queries :
    Says colored "{'query':'-color:a'}" (root_counts.of root_counts.not_a)
    × Says colored "{'query':'color:(a OR c)'}" (root_counts.of root_counts.a_or_c)
    × Says colored "{'query':'color:{a TO c]'}" (root_counts.of root_counts.above_a)
    × Says colored "{'query':'size:*'}" (root_counts.of (has 2))
    × Says colored "{'query':'+color:a color:b'}" (root_counts.of root_counts.a_perhaps_b)
    × Says colored "{'query':'color:(a -b)'}" (root_counts.of root_counts.a_without_b)
unfolding walked
queries = (refl, refl, refl, refl, refl, refl)

-- ---- filters that facets leave out
pub left_out :
    Says colored "{'filter':'{!tag=C}color:z','facet':{'all':{'type':'terms','field':'color','domain':{'excludeTags':'C'}},'n':'countvals(color)'}}" exclusions.counting
    × Says colored "{'filter':['{!tag=C}color:z','-color:c'],'facet':{'all':{'type':'terms','field':'color','domain':{'excludeTags':'C','filter':'-color:b'}},'n':'countvals(color)'}}" exclusions.narrowed
unfolding walked
left_out = (refl, refl)

-- ---- the demonstration
pub demonstration : Says (field "brand" string ∷ field "price" plong ∷ field "tags" strings ∷ [])
    "{'facet':{'brands':{'type':'terms','field':'brand','limit':3,'refine':true,'facet':{'total':'sum(price)'}},'tags':{'type':'terms','field':'tags','limit':-1,'sort':'index'}}}" demo.request
unfolding walked
demonstration = refl

-- ---- requests with a fault
abbrev FailsFor : List Field → String → List String → QFault → Type 0
FailsFor fields t at fault = option_map (request_of (record { shards = 1; fields = field "id" string ∷ fields })) (json_in t) ≡ Some (Err (record { at = map codes at; fault = fault }))

pub faults :
    FailsFor cats "{'facet':{'x':'sum(cat)'}}" ("x" ∷ []) wrong_field_type
    × FailsFor cats "{'facet':{'x':{'type':'terms','field':'cat','sort':'price desc'}}}" ("x" ∷ []) unknown_sort
    × FailsFor cats "{'facet':{'count':'missing(cat)'}}" ("count" ∷ []) reserved_name
    × FailsFor cats "{'facet':{'brands':{'type':'terms','field':'brand'}}}" ("brands" ∷ []) unknown_field
    × FailsFor colored "{'query':'color:a AND size:1 OR size:2'}" [] mixed_operators
unfolding walked
faults = (refl, refl, refl, refl, refl)

-- ---- exclusions inside
abbrev brands_and_colors : List Field
brands_and_colors = field "brand" string ∷ field "color" string ∷ []

pub colors_of_brands :
    Says brands_and_colors "{'filter':'{!tag=C}color:red','facet':{'brands':{'type':'terms','field':'brand','limit':-1,'facet':{'colors':{'type':'terms','field':'color','domain':{'excludeTags':'C'}}}}}}" nested_exclusion.request
    × FailsFor brands_and_colors "{'filter':'{!tag=C}color:red','facet':{'brands':{'type':'terms','field':'brand','limit':-1,'domain':{'blockChildren':'brand:acme'},'facet':{'colors':{'type':'terms','field':'color','domain':{'excludeTags':'C'}}}}}}" ("brands" ∷ "colors" ∷ []) nested_exclude
unfolding walked
colors_of_brands = (refl, refl)

-- a step of the facet's own beside its exclusion is no step around it
pub step_of_its_own : Says (field "brand" string ∷ field "color" string ∷ field "kind" string ∷ [])
    "{'query':'kind:p','filter':'{!tag=T}brand:acme','facet':{'kinds':{'type':'terms','field':'kind','limit':-1,'facet':{'colors':{'type':'terms','field':'color','domain':{'excludeTags':'T','blockChildren':'kind:p'}}}}}}"
    step_inside.request
unfolding walked
step_of_its_own = refl

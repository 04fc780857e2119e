-- How `unique` and `numBuckets` are read. Texts of JSON stand with ' in place of ".
use Rattle.std.specs.Prelude.{◌≡◌, [], ◌∷◌, ◌++◌, Some, Ok, codes, refl}
use Rattle.fc_spec.specs.requests.Request.{terms, no_nodes, facet}
use Rattle.fc_spec.specs.requests.RequestFault.{unknown_key, unknown_field, bad_parameter, bad_statistic, unknown_sort, wrong_field_type, too_large}
use Rattle.fc_spec.specs.requests.Spread.{number_facet}
use Rattle.fc_rows.proofs.Words.{terms_on, named, asking}
use Rattle.fc_rows.proofs.requests.RequestWords.{request_in, Fails, FailsAt, XFails, TermsFails, RangeFails, walked}
use Rattle.fc_rows.proofs.requests.RequestSizes.{statistics, asking as in_facets, HasSize}
use Rattle.fc_rows.proofs.replies.ShortCount.{first_alone}
use Rattle.fc_rows.proofs.replies.ShownNumbers.{asking_numbers}

-- beside each other; where it is false, and where spaces stand in the text
pub both_read :
    (request_in (codes "{'facet':{'c':{'type':'terms','field':'cat','limit':1,'overrequest':0,'numBuckets':true},'u':'unique(cat)'}}") ≡ Some (Ok (asking_numbers first_alone)))
    × (request_in (codes "{'facet':{'c':{'type':'terms','field':'cat','numBuckets':false}}}") ≡ Some (Ok (asking (facet (named "c" (terms (terms_on 1))) no_nodes no_nodes))))
    × (request_in (codes "{'facet':{'u':{'type':'func','func':' unique ( n ) '}}}") ≡ Some (Ok (asking (facet (number_facet (codes "u") 2) no_nodes no_nodes))))
unfolding walked
both_read = (refl, refl, refl)

-- a name of a `unique` is none for a sort; its text is of a statistic's form, over any field
pub number_faults :
    Fails "{'facet':{'c':{'type':'terms','field':'cat','sort':'u desc','facet':{'u':'unique(cat)'}}}}" ("c" ∷ []) unknown_sort
    × XFails "'unique(zat)'" unknown_field
    × XFails "'unique()'" bad_statistic
    × XFails "'unique(n'" bad_statistic
    × XFails "'Unique(n)'" bad_statistic
    × XFails "{'type':'func','func':'unique(zat)'}" unknown_field
unfolding walked
number_faults = (refl, refl, refl, refl, refl, refl)

-- a truth value of a terms facet alone, read behind `prefix` and in front of `domain`
pub beside_faults :
    TermsFails ",'numBuckets':1" bad_parameter
    × TermsFails ",'numBuckets':'true'" bad_parameter
    × TermsFails ",'numBuckets':null" bad_parameter
    × RangeFails ",'numBuckets':true" unknown_key
    × XFails "{'type':'query','q':'*:*','numBuckets':true}" unknown_key
    × XFails "{'type':'terms','field':'zat','numBuckets':1}" unknown_field
    × XFails "{'type':'terms','field':'n','prefix':'a','numBuckets':1}" wrong_field_type
    × TermsFails ",'numBuckets':1,'prefix':'a','domain':{'filter':'zat:a'}" bad_parameter
    × TermsFails ",'numBuckets':true,'domain':{'filter':'zat:a'}" unknown_field
unfolding walked
beside_faults = (refl, refl, refl, refl, refl, refl, refl, refl, refl)

-- what stands beside a facet is no node of the walk: sixty-four are read, and the request has one more; a `unique` is one
pub not_counted :
    HasSize (codes "'0':{'type':'terms','field':'cat','numBuckets':true}," ++ statistics 62 ++ codes "'z':'missing(id)'") 65 1
    × FailsAt (in_facets (codes "'0':{'type':'terms','field':'cat','numBuckets':true}," ++ statistics 63 ++ codes "'z':'missing(id)'")) ("z" ∷ []) too_large
    × HasSize (statistics 63 ++ codes "'z':{'type':'terms','field':'cat','numBuckets':true}") 65 1
    × HasSize (statistics 63 ++ codes "'z':'unique(n)'") 64 1
    × FailsAt (in_facets (statistics 64 ++ codes "'z':'unique(n)'")) ("z" ∷ []) too_large
unfolding walked
not_counted = (refl, refl, refl, refl, refl)

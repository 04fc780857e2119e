-- Faults of domain changes, in the order of their steps.
use Rattle.std.specs.Prelude.{refl}
use Rattle.fc_spec.specs.requests.RequestFault.{unknown_key, query_syntax, unknown_field, bad_value, bad_parameter, nested_exclude}
use Rattle.fc_rows.proofs.requests.RequestWords.{DomainFails, InnerFails, walked}

-- a change is an object, its tags and filters texts, its block member a text
pub forms :
    DomainFails "[]" bad_parameter
    × DomainFails "null" bad_parameter
    × DomainFails "'parent'" bad_parameter
    × DomainFails "{'excludeTags':7}" bad_parameter
    × DomainFails "{'excludeTags':null}" bad_parameter
    × DomainFails "{'excludeTags':['A',7]}" bad_parameter
    × DomainFails "{'blockParent':['*:*']}" bad_parameter
    × DomainFails "{'blockChildren':null}" bad_parameter
    × DomainFails "{'filter':7}" bad_parameter
    × DomainFails "{'filter':{'#A':'*:*'}}" bad_parameter
    × DomainFails "{'filter':['*:*',null]}" bad_parameter
unfolding walked
forms = (refl, refl, refl, refl, refl, refl, refl, refl, refl, refl, refl)

-- items that are no tags; a text is not stripped
pub no_tags :
    DomainFails "{'excludeTags':','}" bad_parameter
    × DomainFails "{'excludeTags':'A,'}" bad_parameter
    × DomainFails "{'excludeTags':'A, B'}" bad_parameter
    × DomainFails "{'excludeTags':'A+B'}" bad_parameter
    × DomainFails "{'excludeTags':['']}" bad_parameter
    × DomainFails "{'excludeTags':['A,B']}" bad_parameter
unfolding walked
no_tags = (refl, refl, refl, refl, refl, refl)

-- a key before the tags
pub keys_first :
    DomainFails "{'excludeTags':7,'query':'*:*'}" unknown_key
    × InnerFails "{'excludeTags':'A','query':'*:*'}" unknown_key
unfolding walked
keys_first = (refl, refl)

-- tags that are none before tags under a block step, and those before two block members
pub tags_before_depth :
    InnerFails "{'excludeTags':'A B'}" bad_parameter
    × InnerFails "{'excludeTags':'A','blockParent':'*:*','blockChildren':'*:*'}" nested_exclude
    × InnerFails "{'excludeTags':'A','blockParent':'zat:a'}" nested_exclude
    × InnerFails "{'excludeTags':'A','filter':'zat:a'}" nested_exclude
    × DomainFails "{'excludeTags':'A B','blockParent':'zat:a'}" bad_parameter
    × DomainFails "{'excludeTags':'A B','filter':'zat:a'}" bad_parameter
unfolding walked
tags_before_depth = (refl, refl, refl, refl, refl, refl)

-- two block members before the text of either, and before the filters
pub one_block_member :
    DomainFails "{'blockParent':'*:*','blockChildren':'*:*'}" bad_parameter
    × DomainFails "{'blockParent':'zat:a','blockChildren':'zat:a'}" bad_parameter
    × DomainFails "{'blockParent':'*:*','blockChildren':'*:*','filter':'zat:a'}" bad_parameter
unfolding walked
one_block_member = (refl, refl, refl)

-- the block member before the filters
pub block_member_before_filters :
    DomainFails "{'blockParent':'zat:a','filter':7}" unknown_field
    × DomainFails "{'blockParent':7,'filter':'zat:a'}" bad_parameter
    × DomainFails "{'blockChildren':'n:a','filter':'cat:'}" bad_value
unfolding walked
block_member_before_filters = (refl, refl, refl)

-- that all filters are texts before what any says, and then one after another
pub filters_in_order :
    DomainFails "{'filter':['zat:a',7]}" bad_parameter
    × DomainFails "{'filter':['zat:a','cat:']}" unknown_field
    × DomainFails "{'filter':['cat:','zat:a']}" query_syntax
unfolding walked
filters_in_order = (refl, refl, refl)

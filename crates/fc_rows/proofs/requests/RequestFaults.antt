-- The sixteen faults of requests. The schema has `id`, a text `cat` and an integer `n`; `x` is the facet at fault.
use Rattle.std.specs.Prelude.{[], ◌∷◌, refl}
use Rattle.fc_spec.specs.requests.RequestFault.{not_an_object, unknown_key, query_syntax, mixed_operators, unknown_field, bad_value, bad_command, unknown_type, missing_parameter, bad_parameter, unknown_sort, bad_statistic, wrong_field_type, reserved_name, nested_exclude}
use Rattle.fc_rows.proofs.requests.RequestWords.{Fails, XFails, TermsFails, RangeFails, DomainFails, InnerFails, walked}

-- no request, and no object of nodes
pub no_objects :
    Fails "[]" [] not_an_object
    × Fails "7" [] not_an_object
    × Fails "null" [] not_an_object
    × Fails "{'facet':[]}" [] not_an_object
    × Fails "{'facet':null}" [] not_an_object
    × TermsFails ",'facet':[]" not_an_object
    × RangeFails ",'facet':7" not_an_object
    × XFails "{'type':'query','q':'*:*','facet':'sum(n)'}" not_an_object
unfolding walked
no_objects = (refl, refl, refl, refl, refl, refl, refl, refl)

-- a key that is none of the members or parameters; keys keep their case
pub unknown_keys :
    Fails "{'offset':0}" [] unknown_key
    × Fails "{'Query':'*:*'}" [] unknown_key
    × Fails "{'':0}" [] unknown_key
    × TermsFails ",'start':0" unknown_key
    × RangeFails ",'limit':1" unknown_key
    × RangeFails ",'sort':'index'" unknown_key
    × XFails "{'type':'query','q':'*:*','field':'cat'}" unknown_key
    × XFails "{'type':'func','func':'sum(n)','domain':{}}" unknown_key
    × XFails "{'type':'func','func':'sum(n)','facet':{}}" unknown_key
    × DomainFails "{'query':'*:*'}" unknown_key
unfolding walked
unknown_keys = (refl, refl, refl, refl, refl, refl, refl, refl, refl, refl)

-- a text without a tree, wherever a query text is read
pub no_queries :
    Fails "{'query':'cat:'}" [] query_syntax
    × Fails "{'query':''}" [] query_syntax
    × Fails "{'query':'{!tag=A}*:*'}" [] query_syntax
    × Fails "{'filter':'cat:'}" [] query_syntax
    × Fails "{'filter':['*:*','{!tag=}cat:a']}" [] query_syntax
    × Fails "{'filter':{'#':'*:*'}}" [] query_syntax
    × Fails "{'filter':{'#A,':'*:*'}}" [] query_syntax
    × XFails "{'type':'query','q':'a'}" query_syntax
    × DomainFails "{'blockParent':'('}" query_syntax
    × DomainFails "{'filter':'{!tag=A}*:*'}" query_syntax
unfolding walked
no_queries = (refl, refl, refl, refl, refl, refl, refl, refl, refl, refl)

-- the other faults of query texts
pub other_faults_of_texts :
    Fails "{'query':'cat:a AND cat:b OR cat:c'}" [] mixed_operators
    × Fails "{'query':'zat:a'}" [] unknown_field
    × Fails "{'query':'n:a'}" [] bad_value
    × Fails "{'filter':'{!tag=A}cat:a AND cat:b OR cat:c'}" [] mixed_operators
    × Fails "{'filter':{'#A':'zat:a'}}" [] unknown_field
    × Fails "{'filter':['*:*','n:[a TO *]']}" [] bad_value
    × XFails "{'type':'query','q':'zat:a'}" unknown_field
    × DomainFails "{'blockChildren':'n:a'}" bad_value
    × DomainFails "{'filter':['*:*','cat:a AND cat:b OR cat:c']}" mixed_operators
unfolding walked
other_faults_of_texts = (refl, refl, refl, refl, refl, refl, refl, refl, refl)

-- filters that are neither texts nor objects of one tagged text
pub shapes_of_filters :
    Fails "{'filter':7}" [] bad_parameter
    × Fails "{'filter':null}" [] bad_parameter
    × Fails "{'filter':['*:*',7]}" [] bad_parameter
    × Fails "{'filter':[['*:*']]}" [] bad_parameter
    × Fails "{'filter':{}}" [] bad_parameter
    × Fails "{'filter':{'A':'*:*'}}" [] bad_parameter
    × Fails "{'filter':{'#A':7}}" [] bad_parameter
    × Fails "{'filter':{'#A':'*:*','#B':'*:*'}}" [] bad_parameter
unfolding walked
shapes_of_filters = (refl, refl, refl, refl, refl, refl, refl, refl)

-- a query that is no text, and a limit that is not 0
pub no_texts_and_no_zeros :
    Fails "{'query':1}" [] bad_parameter
    × Fails "{'query':null}" [] bad_parameter
    × Fails "{'limit':1}" [] bad_parameter
    × Fails "{'limit':-1}" [] bad_parameter
    × Fails "{'limit':'0'}" [] bad_parameter
    × Fails "{'limit':null}" [] bad_parameter
    × Fails "{'limit':false}" [] bad_parameter
    × Fails "{'limit':0.0}" [] bad_parameter
    × Fails "{'limit':-0}" [] bad_parameter
    × Fails "{'limit':0e0}" [] bad_parameter
unfolding walked
no_texts_and_no_zeros = (refl, refl, refl, refl, refl, refl, refl, refl, refl, refl)

-- a command is a text or an object
pub no_commands :
    XFails "7" bad_command
    × XFails "null" bad_command
    × XFails "[]" bad_command
    × XFails "true" bad_command
unfolding walked
no_commands = (refl, refl, refl, refl)

-- the type is one of four texts
pub types :
    XFails "{}" missing_parameter
    × XFails "{'type':'heatmap'}" unknown_type
    × XFails "{'type':'Terms'}" unknown_type
    × XFails "{'type':''}" unknown_type
    × XFails "{'type':7}" unknown_type
    × XFails "{'type':null}" unknown_type
unfolding walked
types = (refl, refl, refl, refl, refl, refl)

-- parameters that have to be there
pub missing_parameters :
    XFails "{'type':'terms'}" missing_parameter
    × XFails "{'type':'range','start':0,'end':1,'gap':1}" missing_parameter
    × XFails "{'type':'range','field':'n','end':1,'gap':1}" missing_parameter
    × XFails "{'type':'range','field':'n','start':0,'gap':1}" missing_parameter
    × XFails "{'type':'range','field':'n','start':0,'end':1}" missing_parameter
    × XFails "{'type':'query'}" missing_parameter
    × XFails "{'type':'func'}" missing_parameter
unfolding walked
missing_parameters = (refl, refl, refl, refl, refl, refl, refl)

-- fields that are not there, or not of the type
pub fields :
    XFails "{'type':'terms','field':'zat'}" unknown_field
    × XFails "{'type':'terms','field':''}" unknown_field
    × XFails "{'type':'terms','field':7}" bad_parameter
    × XFails "{'type':'range','field':'zat'}" unknown_field
    × XFails "{'type':'range','field':null}" bad_parameter
    × XFails "{'type':'range','field':'cat'}" wrong_field_type
    × XFails "{'type':'terms','field':'n','prefix':'a'}" wrong_field_type
    × XFails "{'type':'terms','field':'n','prefix':''}" wrong_field_type
unfolding walked
fields = (refl, refl, refl, refl, refl, refl, refl, refl)

-- sorts of no form, and by nothing that is there
pub sorts :
    TermsFails ",'sort':7" bad_parameter
    × TermsFails ",'sort':'y'" unknown_sort
    × TermsFails ",'sort':{'y':'asc'}" unknown_sort
    × TermsFails ",'sort':{'count':'up'}" bad_parameter
unfolding walked
sorts = (refl, refl, refl, refl)

-- statistics of no form, of no field, and of texts
pub statistics :
    XFails "'avg(n)'" bad_statistic
    × XFails "'sum(zat)'" unknown_field
    × XFails "'sum(cat)'" wrong_field_type
    × XFails "{'type':'func','func':'sum'}" bad_statistic
    × XFails "{'type':'func','func':'min(zat)'}" unknown_field
    × XFails "{'type':'func','func':'max(id)'}" wrong_field_type
    × XFails "{'type':'func','func':7}" bad_parameter
unfolding walked
statistics = (refl, refl, refl, refl, refl, refl, refl)

-- names that each bucket has, at every depth; other names are free
pub reserved_names :
    Fails "{'facet':{'count':'missing(cat)'}}" ("count" ∷ []) reserved_name
    × Fails "{'facet':{'val':'missing(cat)'}}" ("val" ∷ []) reserved_name
    × TermsFails ",'facet':{'y':'missing(cat)'},'sort':'z'" unknown_sort
    × Fails "{'facet':{'x':{'type':'query','q':'*:*','facet':{'val':7}}}}" ("x" ∷ "val" ∷ []) reserved_name
unfolding walked
reserved_names = (refl, refl, refl, refl)

-- no facet under a block step excludes tags
pub exclusions_inside :
    InnerFails "{'excludeTags':'A'}" nested_exclude
    × InnerFails "{'excludeTags':['A','B']}" nested_exclude
    × Fails "{'facet':{'x':{'type':'query','q':'*:*','domain':{'blockParent':'*:*'},'facet':{'y':{'type':'query','q':'*:*','facet':{'z':{'type':'terms','field':'cat','domain':{'excludeTags':'A'}}}}}}}}" ("x" ∷ "y" ∷ "z" ∷ []) nested_exclude
    × Fails "{'facet':{'x':{'type':'query','q':'*:*','facet':{'y':{'type':'query','q':'*:*','domain':{'excludeTags':'A','blockParent':'*:*'},'facet':{'z':{'type':'terms','field':'cat','domain':{'excludeTags':'A'}}}}}}}}" ("x" ∷ "y" ∷ "z" ∷ []) nested_exclude
unfolding walked
exclusions_inside = (refl, refl, refl, refl)

-- Where two steps of the walk over a request are at fault, the earlier one counts.
use Rattle.std.specs.Prelude.{[], ◌∷◌, refl}
use Rattle.fc_spec.specs.requests.RequestFault.{not_an_object, unknown_key, query_syntax, mixed_operators, unknown_field, bad_value, bad_command, unknown_type, missing_parameter, bad_parameter, unknown_sort, wrong_field_type, reserved_name, too_large}
use Rattle.fc_rows.proofs.requests.RequestWords.{Fails, XFails, TermsFails, RangeFails, walked}

-- keys, `query`, `filter`, `limit`, `facet`
pub members_of_a_request :
    Fails "{'query':1,'zzz':0}" [] unknown_key
    × Fails "{'query':'zat:a','filter':7}" [] unknown_field
    × Fails "{'query':1,'filter':'zat:a'}" [] bad_parameter
    × Fails "{'filter':'cat:','query':'zat:a'}" [] unknown_field
    × Fails "{'filter':'zat:a','limit':1}" [] unknown_field
    × Fails "{'limit':1,'facet':[]}" [] bad_parameter
    × Fails "{'facet':{'x':{}},'limit':1}" [] bad_parameter
unfolding walked
members_of_a_request = (refl, refl, refl, refl, refl, refl, refl)

-- filters one after another, the tags of each before its text
pub filters_in_order :
    Fails "{'filter':['zat:a',7]}" [] unknown_field
    × Fails "{'filter':[7,'zat:a']}" [] bad_parameter
    × Fails "{'filter':['n:a','cat:']}" [] bad_value
    × Fails "{'filter':'{!tag=A,}zat:a'}" [] query_syntax
    × Fails "{'filter':{'#A,':'zat:a'}}" [] query_syntax
unfolding walked
filters_in_order = (refl, refl, refl, refl, refl)

-- in one text a kind of fault before the next kind, wherever it stands
pub kinds_of_text_faults :
    Fails "{'query':'n:a AND zat:a OR cat:'}" [] query_syntax
    × Fails "{'query':'n:a AND zat:a OR cat:a'}" [] mixed_operators
    × Fails "{'query':'n:a AND zat:a'}" [] unknown_field
unfolding walked
kinds_of_text_faults = (refl, refl, refl)

-- nodes in the order of the bytes of their names, each with all that is nested in it
pub names_in_order :
    Fails "{'facet':{'b':7,'a':{}}}" ("a" ∷ []) missing_parameter
    × Fails "{'facet':{'a':7,'B':{}}}" ("B" ∷ []) missing_parameter
    × Fails "{'facet':{'b':7,'a':{'type':'query','q':'*:*','facet':{'c':{}}}}}" ("a" ∷ "c" ∷ []) missing_parameter
    × Fails "{'facet':{'b':7,'':{}}}" ("" ∷ []) missing_parameter
unfolding walked
names_in_order = (refl, refl, refl, refl)

-- the names around a fault
pub names_from_the_outermost :
    Fails "{'facet':{'a':{'type':'query','q':'*:*','facet':{'b':{'type':'terms','field':'cat','facet':{'c':'sum(cat)'}}}}}}" ("a" ∷ "b" ∷ "c" ∷ []) wrong_field_type
    × Fails "{'facet':{'a':{'type':'query','q':'*:*','facet':{'b':{'type':'terms','field':'cat','facet':{'c':'sum(n)'},'sort':'d'}}}}}" ("a" ∷ "b" ∷ []) unknown_sort
    × Fails "{'facet':{'a':{'type':'terms','field':'cat','facet':{'b':{'type':'terms','field':'cat','facet':{'c':'sum(n)'}}},'sort':'c'}}}" ("a" ∷ []) unknown_sort
    × Fails "{'facet':{'a':{'type':'query','q':'*:*','facet':{'b':{'type':'query','q':'*:*','facet':[]}}}}}" ("a" ∷ "b" ∷ []) not_an_object
unfolding walked
names_from_the_outermost = (refl, refl, refl, refl)

-- a name, the form of the command, its type, its keys, its parameters
pub steps_of_a_node :
    Fails "{'facet':{'count':7}}" ("count" ∷ []) reserved_name
    × Fails "{'facet':{'val':'sum('}}" ("val" ∷ []) reserved_name
    × Fails "{'facet':{'count':{}}}" ("count" ∷ []) reserved_name
    × XFails "{'zzz':1}" missing_parameter
    × XFails "{'type':'heatmap','zzz':1}" unknown_type
    × XFails "{'type':'terms','zzz':1}" unknown_key
    × XFails "{'type':'terms','field':'zat','zzz':1}" unknown_key
    × XFails "{'type':'func','func':'sum(','zzz':1}" unknown_key
    × XFails "{'type':'range','field':'cat','zzz':1}" unknown_key
    × XFails "{'type':'query','q':'cat:','zzz':1}" unknown_key
unfolding walked
steps_of_a_node = (refl, refl, refl, refl, refl, refl, refl, refl, refl, refl)

-- terms: `field` before all numbers
pub field_of_terms :
    XFails "{'type':'terms','offset':-1}" missing_parameter
    × XFails "{'type':'terms','field':'zat','offset':-1}" unknown_field
    × XFails "{'type':'terms','field':'zat','method':7}" unknown_field
unfolding walked
field_of_terms = (refl, refl, refl)

-- `offset`, `limit`, `mincount` and `missing` before `prefix`
pub before_prefix :
    XFails "{'type':'terms','field':'n','prefix':'a','offset':-1}" bad_parameter
    × XFails "{'type':'terms','field':'n','prefix':'a','limit':-2}" bad_parameter
    × XFails "{'type':'terms','field':'n','prefix':'a','mincount':0}" bad_parameter
    × XFails "{'type':'terms','field':'n','prefix':'a','missing':0}" bad_parameter
    × XFails "{'type':'terms','field':'n','prefix':7}" bad_parameter
unfolding walked
before_prefix = (refl, refl, refl, refl, refl)

-- `refine`, the over-numbers and `method` behind it
pub behind_prefix :
    XFails "{'type':'terms','field':'n','prefix':'a','refine':0}" wrong_field_type
    × XFails "{'type':'terms','field':'n','prefix':'a','overrequest':-2}" wrong_field_type
    × XFails "{'type':'terms','field':'n','prefix':'a','overrefine':-2}" wrong_field_type
    × XFails "{'type':'terms','field':'n','prefix':'a','method':7}" wrong_field_type
    × XFails "{'type':'terms','field':'n','prefix':'a','domain':{'zzz':1}}" wrong_field_type
unfolding walked
behind_prefix = (refl, refl, refl, refl, refl)

-- every number, truth value and text before `domain`
pub before_domain :
    TermsFails ",'domain':{'zzz':1},'offset':-1" bad_parameter
    × TermsFails ",'domain':{'zzz':1},'limit':-2" bad_parameter
    × TermsFails ",'domain':{'zzz':1},'mincount':0" bad_parameter
    × TermsFails ",'domain':{'zzz':1},'missing':0" bad_parameter
    × TermsFails ",'domain':{'zzz':1},'refine':0" bad_parameter
    × TermsFails ",'domain':{'zzz':1},'overrequest':-2" bad_parameter
    × TermsFails ",'domain':{'zzz':1},'overrefine':-2" bad_parameter
    × TermsFails ",'domain':{'zzz':1},'method':7" bad_parameter
unfolding walked
before_domain = (refl, refl, refl, refl, refl, refl, refl, refl)

-- `domain` before `facet`, and `facet` before `sort`
pub domain_facet_sort :
    TermsFails ",'domain':{'zzz':1},'facet':[],'sort':'y'" unknown_key
    × TermsFails ",'facet':[],'sort':'y'" not_an_object
    × TermsFails ",'facet':[],'sort':7" not_an_object
    × TermsFails ",'domain':{'zzz':1},'sort':'y'" unknown_key
    × Fails "{'facet':{'x':{'type':'terms','field':'cat','facet':{'y':7},'sort':'z'}}}" ("x" ∷ "y" ∷ []) bad_command
unfolding walked
domain_facet_sort = (refl, refl, refl, refl, refl)

-- range: `field` and its type before `start`, `start` before `end`, `end` before `gap`
pub fields_of_ranges :
    XFails "{'type':'range','field':'cat'}" wrong_field_type
    × XFails "{'type':'range','field':'zat','start':'a'}" unknown_field
    × XFails "{'type':'range','field':'n','end':'a'}" missing_parameter
    × XFails "{'type':'range','field':'n','start':'a'}" bad_parameter
    × XFails "{'type':'range','field':'n','start':9223372036854775808}" bad_parameter
    × XFails "{'type':'range','field':'n','start':5,'gap':'a'}" missing_parameter
    × XFails "{'type':'range','field':'n','start':5,'end':4}" bad_parameter
    × XFails "{'type':'range','field':'n','start':5,'end':'a'}" bad_parameter
    × XFails "{'type':'range','field':'n','start':5,'end':6,'hardend':7}" missing_parameter
unfolding walked
fields_of_ranges = (refl, refl, refl, refl, refl, refl, refl, refl, refl)

-- then `hardend`, then the last high end, then the number of gaps, and then `other`
pub ends_and_gaps :
    XFails "{'type':'range','field':'n','start':0,'end':10001,'gap':1,'hardend':7}" bad_parameter
    × XFails "{'type':'range','field':'n','start':-9223372036854775808,'end':9223372036854775807,'gap':2}" bad_parameter
    × XFails "{'type':'range','field':'n','start':-9223372036854775808,'end':9223372036854775807,'gap':2,'hardend':true}" too_large
    × XFails "{'type':'range','field':'n','start':-9223372036854775808,'end':9223372036854775807,'gap':3}" too_large
    × XFails "{'type':'range','field':'n','start':0,'end':10001,'gap':1,'other':'zzz'}" too_large
    × XFails "{'type':'range','field':'n','start':0,'end':10001,'gap':1,'include':'zzz'}" too_large
unfolding walked
ends_and_gaps = (refl, refl, refl, refl, refl, refl)

-- `other` and `include` before `domain`, `domain` before `facet`
pub words_before_domain :
    RangeFails ",'other':'zzz','domain':{'zzz':1}" bad_parameter
    × RangeFails ",'include':'zzz','domain':{'zzz':1}" bad_parameter
    × RangeFails ",'domain':{'zzz':1},'facet':[]" unknown_key
unfolding walked
words_before_domain = (refl, refl, refl)

-- query: `q`, `domain`, `facet`
pub query_before_domain :
    XFails "{'type':'query','domain':{'zzz':1}}" missing_parameter
    × XFails "{'type':'query','q':'zat:a','domain':{'zzz':1}}" unknown_field
    × XFails "{'type':'query','q':7,'domain':{'zzz':1}}" bad_parameter
    × XFails "{'type':'query','q':'*:*','domain':{'zzz':1},'facet':[]}" unknown_key
unfolding walked
query_before_domain = (refl, refl, refl, refl)

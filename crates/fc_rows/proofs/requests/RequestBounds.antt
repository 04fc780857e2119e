-- The numbers of requests at their limits.
use Rattle.std.specs.Prelude.{pos, negsuc, None, Some, true, refl}
use Rattle.fc_spec.specs.requests.RequestFault.{bad_parameter, too_large}
use Rattle.fc_rows.proofs.Words.{terms_on, range_on}
use Rattle.fc_rows.proofs.requests.RequestWords.{XFails, TermsFails, RangeFails, TermsRead, RangeRead, walked}

-- `offset` from 0 to a million
pub offsets :
    TermsRead ",'offset':0" (record (terms_on 1) { offset = 0 })
    × TermsRead ",'offset':1000000" (record (terms_on 1) { offset = 1_000_000 })
    × TermsFails ",'offset':1000001" bad_parameter
    × TermsFails ",'offset':-1" bad_parameter
unfolding walked
offsets = (refl, refl, refl, refl)

-- `limit` from -1, which is all, to a million
pub limits :
    TermsRead ",'limit':-1" (record (terms_on 1) { limit = None; overrequest = 0; overrefine = 0 })
    × TermsRead ",'limit':0" (record (terms_on 1) { limit = Some 0; overrequest = 4; overrefine = 4 })
    × TermsRead ",'limit':1000000" (record (terms_on 1) { limit = Some 1_000_000; overrequest = 100_004; overrefine = 100_004 })
    × TermsFails ",'limit':1000001" bad_parameter
    × TermsFails ",'limit':-2" bad_parameter
unfolding walked
limits = (refl, refl, refl, refl, refl)

-- `mincount` from 1 to a million
pub mincounts :
    TermsRead ",'mincount':1" (record (terms_on 1) { mincount = 1 })
    × TermsRead ",'mincount':1000000" (record (terms_on 1) { mincount = 1_000_000 })
    × TermsFails ",'mincount':1000001" bad_parameter
    × TermsFails ",'mincount':0" bad_parameter
    × TermsFails ",'mincount':-1" bad_parameter
unfolding walked
mincounts = (refl, refl, refl, refl, refl)

-- the over-numbers from -1, which is a tenth of the limit and 4, to a million; without a limit they are 0
pub over_numbers :
    TermsRead ",'overrequest':-1,'limit':99" (record (terms_on 1) { limit = Some 99; overrequest = 13; overrefine = 13 })
    × TermsRead ",'overrefine':-1,'limit':100" (record (terms_on 1) { limit = Some 100; overrequest = 14; overrefine = 14 })
    × TermsRead ",'overrequest':0" (record (terms_on 1) { overrequest = 0 })
    × TermsRead ",'overrefine':0" (record (terms_on 1) { overrefine = 0 })
    × TermsRead ",'overrequest':1000000" (record (terms_on 1) { overrequest = 1_000_000 })
    × TermsRead ",'overrefine':1000000" (record (terms_on 1) { overrefine = 1_000_000 })
    × TermsRead ",'overrequest':7,'overrefine':1000000,'limit':-1" (record (terms_on 1) { limit = None; overrequest = 0; overrefine = 0 })
    × TermsFails ",'overrequest':1000001" bad_parameter
    × TermsFails ",'overrefine':1000001" bad_parameter
    × TermsFails ",'overrequest':-2" bad_parameter
    × TermsFails ",'overrefine':-2" bad_parameter
    × TermsFails ",'overrequest':-2,'limit':-1" bad_parameter
unfolding walked
over_numbers = (refl, refl, refl, refl, refl, refl, refl, refl, refl, refl, refl, refl)

-- fractions, exponents, other numbers than whole ones of 64 bits and other values
pub no_whole_numbers :
    TermsFails ",'offset':1.0" bad_parameter
    × TermsFails ",'offset':1e0" bad_parameter
    × TermsFails ",'offset':-0" bad_parameter
    × TermsFails ",'limit':'1'" bad_parameter
    × TermsFails ",'limit':null" bad_parameter
    × TermsFails ",'mincount':true" bad_parameter
    × TermsFails ",'mincount':18446744073709551615" bad_parameter
    × TermsFails ",'overrequest':[]" bad_parameter
    × TermsFails ",'overrefine':{}" bad_parameter
    × TermsFails ",'missing':1" bad_parameter
    × TermsFails ",'missing':'true'" bad_parameter
    × TermsFails ",'refine':'simple'" bad_parameter
    × TermsFails ",'refine':null" bad_parameter
    × TermsFails ",'prefix':null" bad_parameter
    × TermsFails ",'method':null" bad_parameter
    × RangeFails ",'hardend':0" bad_parameter
unfolding walked
no_whole_numbers = (refl, refl, refl, refl, refl, refl, refl, refl, refl, refl, refl, refl, refl, refl, refl, refl)

-- `start`, `end` and `gap` are whole numbers of 64 bits signed, `end` at least `start`, `gap` at least 1
pub ends_of_ranges :
    RangeRead "'start':9223372036854775807,'end':9223372036854775807,'gap':1" (range_on 2 (pos 9223372036854775807) (pos 9223372036854775807) (pos 1))
    × RangeRead "'start':-9223372036854775808,'end':-9223372036854775808,'gap':1" (range_on 2 (negsuc 9223372036854775807) (negsuc 9223372036854775807) (pos 1))
    × XFails "{'type':'range','field':'n','start':9223372036854775808,'end':9223372036854775808,'gap':1}" bad_parameter
    × XFails "{'type':'range','field':'n','start':0,'end':9223372036854775808,'gap':1}" bad_parameter
    × XFails "{'type':'range','field':'n','start':0,'end':1,'gap':9223372036854775808}" bad_parameter
    × XFails "{'type':'range','field':'n','start':-9223372036854775809,'end':0,'gap':9223372036854775807}" bad_parameter
    × RangeRead "'start':5,'end':5,'gap':1" (range_on 2 (pos 5) (pos 5) (pos 1))
    × XFails "{'type':'range','field':'n','start':5,'end':4,'gap':1}" bad_parameter
    × XFails "{'type':'range','field':'n','start':0,'end':1,'gap':0}" bad_parameter
    × XFails "{'type':'range','field':'n','start':0,'end':1,'gap':-1}" bad_parameter
    × XFails "{'type':'range','field':'n','start':0.0,'end':1,'gap':1}" bad_parameter
unfolding walked
ends_of_ranges = (refl, refl, refl, refl, refl, refl, refl, refl, refl, refl, refl)

-- the last high end is at most 2^63 - 1; with `hardend` it is the end
pub last_high_ends :
    RangeRead "'start':0,'end':9223372036854775807,'gap':9223372036854775807" (range_on 2 (pos 0) (pos 9223372036854775807) (pos 9223372036854775807))
    × XFails "{'type':'range','field':'n','start':1,'end':9223372036854775807,'gap':9223372036854775807}" bad_parameter
    × RangeRead "'start':1,'end':9223372036854775807,'gap':9223372036854775807,'hardend':true" (record (range_on 2 (pos 1) (pos 9223372036854775807) (pos 9223372036854775807)) { hardend = true })
    × XFails "{'type':'range','field':'n','start':-9223372036854775808,'end':9223372036854775807,'gap':9223372036854775807}" bad_parameter
    × RangeRead "'start':-9223372036854775808,'end':9223372036854775806,'gap':9223372036854775807" (range_on 2 (negsuc 9223372036854775807) (pos 9223372036854775806) (pos 9223372036854775807))
    × RangeRead "'start':-9223372036854775808,'end':9223372036854775807,'gap':9223372036854775807,'hardend':true" (record (range_on 2 (negsuc 9223372036854775807) (pos 9223372036854775807) (pos 9223372036854775807)) { hardend = true })
unfolding walked
last_high_ends = (refl, refl, refl, refl, refl, refl)

-- at most 10,000 gaps
pub gaps :
    RangeRead "'start':0,'end':10000,'gap':1" (range_on 2 (pos 0) (pos 10000) (pos 1))
    × XFails "{'type':'range','field':'n','start':0,'end':10001,'gap':1}" too_large
    × RangeRead "'start':0,'end':19999,'gap':2" (range_on 2 (pos 0) (pos 19999) (pos 2))
    × RangeRead "'start':0,'end':20000,'gap':2" (range_on 2 (pos 0) (pos 20000) (pos 2))
    × XFails "{'type':'range','field':'n','start':0,'end':20001,'gap':2}" too_large
    × XFails "{'type':'range','field':'n','start':0,'end':20001,'gap':2,'hardend':true}" too_large
    × RangeRead "'start':-5000,'end':5000,'gap':1" (range_on 2 (negsuc 4999) (pos 5000) (pos 1))
    × XFails "{'type':'range','field':'n','start':-5001,'end':5000,'gap':1}" too_large
    × XFails "{'type':'range','field':'n','start':-9223372036854775808,'end':9223372036854775807,'gap':1}" too_large
unfolding walked
gaps = (refl, refl, refl, refl, refl, refl, refl, refl, refl)

-- What `other` and `include` of ranges mean.
use Rattle.std.specs.Prelude.{pos, true, false, refl}
use Rattle.fc_spec.specs.requests.Request.{Range}
use Rattle.fc_spec.specs.requests.RequestFault.{bad_parameter}
use Rattle.fc_rows.proofs.Words.{range_on}
use Rattle.fc_rows.proofs.requests.RequestWords.{RangeSays, RangeFails, walked}

-- the range that says nothing more
abbrev base : Range
base = range_on 2 (pos 0) (pos 10) (pos 4)

-- ---- one of the words, or an array of them; `all` beside others is all, and `none` beside others wins
pub other :
    RangeSays "" base
    × RangeSays ",'other':'before'" (record base { before = true })
    × RangeSays ",'other':'after'" (record base { after = true })
    × RangeSays ",'other':['between']" (record base { between = true })
    × RangeSays ",'other':'none'" base
    × RangeSays ",'other':[]" base
    × RangeSays ",'other':'all'" (record base { before = true; after = true; between = true })
    × RangeSays ",'other':['after','before','after']" (record base { before = true; after = true })
    × RangeSays ",'other':['before','all']" (record base { before = true; after = true; between = true })
    × RangeSays ",'other':['before','none']" base
    × RangeSays ",'other':['none','all']" base
unfolding walked
other = (refl, refl, refl, refl, refl, refl, refl, refl, refl, refl, refl)

-- ---- without any word `lower`
pub include :
    RangeSays ",'include':'lower'" base
    × RangeSays ",'include':[]" base
    × RangeSays ",'include':'upper'" (record base { lower = false; upper = true })
    × RangeSays ",'include':'edge'" (record base { lower = false; edge = true })
    × RangeSays ",'include':['outer']" (record base { lower = false; outer = true })
    × RangeSays ",'include':'all'" (record base { upper = true; edge = true; outer = true })
    × RangeSays ",'include':['upper','all']" (record base { upper = true; edge = true; outer = true })
    × RangeSays ",'include':['edge','lower']" (record base { edge = true })
    × RangeSays ",'hardend':true,'other':'after','include':'upper'" (record base { hardend = true; after = true; lower = false; upper = true })
unfolding walked
include = (refl, refl, refl, refl, refl, refl, refl, refl, refl)

-- ---- other words and other values
pub no_words :
    RangeFails ",'other':'lower'" bad_parameter
    × RangeFails ",'other':''" bad_parameter
    × RangeFails ",'other':'before,after'" bad_parameter
    × RangeFails ",'other':['before','zzz']" bad_parameter
    × RangeFails ",'other':['before',7]" bad_parameter
    × RangeFails ",'other':7" bad_parameter
    × RangeFails ",'other':null" bad_parameter
    × RangeFails ",'other':{}" bad_parameter
    × RangeFails ",'include':'none'" bad_parameter
    × RangeFails ",'include':'Lower'" bad_parameter
    × RangeFails ",'include':['lower',['upper']]" bad_parameter
    × RangeFails ",'include':true" bad_parameter
unfolding walked
no_words = (refl, refl, refl, refl, refl, refl, refl, refl, refl, refl, refl, refl)

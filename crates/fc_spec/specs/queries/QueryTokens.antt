-- The tokens of query texts. Guide: Standard Query Parser, "Specifying Terms for the Standard Query Parser", "Boolean Operators Supported by the Standard Query Parser".
use Rattle.std.specs.Prelude.{Option, Bool}
use Rattle.fc_spec.specs.documents.Val.{Text}

-- a range and its ends; an end that is not there is a star
pub record WrittenRange : Type 0 where
  pub low : Option Text
  pub high : Option Text
  pub has_low : Bool
  pub has_high : Bool

-- what can stand as a value
pub data Value : Type 0 where
  word : Text → Value
  quoted : Text → Value
  range : WrittenRange → Value
  star : Value

-- `+`, `-`, `!`, NOT
pub data Sign : Type 0 where
  plus : Sign
  minus : Sign
  exclamation : Sign
  negation : Sign

-- AND, OR
pub data Operator : Type 0 where
  and : Operator
  or : Operator

-- a value, a sign, an operator, `(`, `)`, `:`
pub data Token : Type 0 where
  value : Value → Token
  sign : Sign → Token
  operator : Operator → Token
  opening : Token
  closing : Token
  colon : Token

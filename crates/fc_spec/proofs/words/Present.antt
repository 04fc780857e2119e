-- What holds of a value, where there is one.
use Rattle.std.proofs.Common.{Bool, true, false, cond, Option, None, Some, option_map, IfSome}
use Rattle.std.specs.Option.{option_and_then}

pub bound : {A B : Type 0} (P : B → Type 0) (o : Option A) (f : A → Option B) → IfSome o (λ a. IfSome (f a) P) → IfSome (option_and_then f o) P
bound P None f h = tt
bound P (Some a) f h = h

pub either : {B : Type 0} (P : B → Type 0) (b : Bool) (x y : Option B) → IfSome x P → IfSome y P → IfSome (cond b x y) P
either P true x y h k = h
either P false x y h k = k

pub mapped : {A B : Type 0} (P : B → Type 0) (o : Option A) (f : A → B) → IfSome o (λ a. P (f a)) → IfSome (option_map f o) P
mapped P None f h = tt
mapped P (Some a) f h = h

pub weaker : {A : Type 0} (P Q : A → Type 0) (o : Option A) → ((a : A) → P a → Q a) → IfSome o P → IfSome o Q
weaker P Q None f h = tt
weaker P Q (Some a) f h = f a h

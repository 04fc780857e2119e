-- The members of a list at the places where another list has true.
use Rattle.std.proofs.Common.{◌≡◌, List, [], ◌∷◌, ◌++◌, map, length, Bool, true, false, cond, ◌&&◌, refl, ap, arith}
use Rattle.std.specs.List.{filter, items_where_true}
use Rattle.fc_spec.specs.documents.Sets.{zip_with}
use Rattle.fc_spec.proofs.words.Members.{Every}

pub items_where_true-append : {X : Type 0} (a b : List Bool) (xs ys : List X) → length a ≡ length xs → items_where_true (a ++ b) (xs ++ ys) ≡ items_where_true a xs ++ items_where_true b ys
items_where_true-append [] b [] ys e = refl
items_where_true-append [] b (x ∷ xs) ys e = absurd (cc)
items_where_true-append (h ∷ a) b [] ys e = absurd (cc)
items_where_true-append (true ∷ a) b (x ∷ xs) ys e = ap (λ zs. x ∷ zs) (items_where_true-append a b xs ys (omega arith))
items_where_true-append (false ∷ a) b (x ∷ xs) ys e = items_where_true-append a b xs ys (omega arith)

pub items_where_true-map : {X Y : Type 0} (f : X → Y) (a : List Bool) (xs : List X) → items_where_true a (map f xs) ≡ map f (items_where_true a xs)
items_where_true-map f [] xs = refl
items_where_true-map f (h ∷ a) [] = refl
items_where_true-map f (true ∷ a) (x ∷ xs) = ap (λ ys. f x ∷ ys) (items_where_true-map f a xs)
items_where_true-map f (false ∷ a) (x ∷ xs) = items_where_true-map f a xs

-- what each member passes, each of these passes
pub every_where_true : {X : Type 0} (p : X → Bool) (a : List Bool) (xs : List X) → Every p xs → Every p (items_where_true a xs)
every_where_true p [] xs e = tt
every_where_true p (h ∷ a) [] e = tt
every_where_true p (true ∷ a) (x ∷ xs) e = (e.0, every_where_true p a xs e.1)
every_where_true p (false ∷ a) (x ∷ xs) e = every_where_true p a xs e.1

-- a filter takes the members where its test passes
pub filter_where_true : {X : Type 0} (t : X → Bool) (xs : List X) → filter t xs ≡ items_where_true (map t xs) xs
filter_where_true t [] = refl
filter_where_true t (x ∷ xs) = go (t x) (filter_where_true t xs)
  where
    go : (b : Bool) → filter t xs ≡ items_where_true (map t xs) xs → cond b (x ∷ filter t xs) (filter t xs) ≡ items_where_true (b ∷ map t xs) (x ∷ xs)
    go true e = ap (λ ys. x ∷ ys) e
    go false e = e

-- of these it takes those where its test passes too
pub filter-items_where_true : {X : Type 0} (t : X → Bool) (a : List Bool) (xs : List X) → filter t (items_where_true a xs) ≡ items_where_true (zip_with ◌&&◌ a (map t xs)) xs
filter-items_where_true t [] xs = refl
filter-items_where_true t (h ∷ a) [] = refl
filter-items_where_true t (true ∷ a) (x ∷ xs) = go (t x) (filter-items_where_true t a xs)
  where
    go : (b : Bool) → filter t (items_where_true a xs) ≡ items_where_true (zip_with ◌&&◌ a (map t xs)) xs
        → cond b (x ∷ filter t (items_where_true a xs)) (filter t (items_where_true a xs)) ≡ items_where_true (b ∷ zip_with ◌&&◌ a (map t xs)) (x ∷ xs)
    go true e = ap (λ ys. x ∷ ys) e
    go false e = e
filter-items_where_true t (false ∷ a) (x ∷ xs) = filter-items_where_true t a xs

-- ---- two lists joined position by position
pub length-zip_with : (join : Bool → Bool → Bool) (bits others : List Bool) → length bits ≡ length others → length (zip_with join bits others) ≡ length bits
length-zip_with join [] others size = refl
length-zip_with join (bit ∷ bits) [] size = cc
length-zip_with join (bit ∷ bits) (other ∷ others) size = let rest = length-zip_with join bits others (omega arith) in omega arith

pub zip_with-map : {X : Type 0} (join : Bool → Bool → Bool) (f g : X → Bool) (xs : List X) → zip_with join (map f xs) (map g xs) ≡ map (λ x. join (f x) (g x)) xs
zip_with-map join f g [] = refl
zip_with-map join f g (x ∷ xs) = ap (λ l. join (f x) (g x) ∷ l) (zip_with-map join f g xs)

pub zip_with-append : (join : Bool → Bool → Bool) (a b c d : List Bool) → length a ≡ length c → zip_with join (a ++ b) (c ++ d) ≡ zip_with join a c ++ zip_with join b d
zip_with-append join [] b [] d e = refl
zip_with-append join [] b (y ∷ c) d e = absurd (cc)
zip_with-append join (x ∷ a) b [] d e = absurd (cc)
zip_with-append join (x ∷ a) b (y ∷ c) d e = ap (λ v. join x y ∷ v) (zip_with-append join a b c d (omega arith))

-- The grammar's loops over tokens, a turn at a time, and the data that they give.
use Rattle.std.proofs.Common.{◌≡◌, ℕ, ◌-◌, ◌<◌, ◌≤◌, List, [], ◌∷◌, ◌++◌, length, Option, Some, None, option_map, refl, ap, ◌∙◌}
use Rattle.json.specs.Token.{Token}
use Rattle.json.specs.Json as json
use Rattle.json.specs.Json.{Parse, parse_map, after_end_array, read_key, items, members, value_with, value}
use Rattle.json.proofs.Grammar.{value_is, items_end, items_more, members_end, members_more, value-begin_array, value-begin_object}
use Rattle.serde_json.specs.Data.{Data, array, object, Items, no_items, item, Members, no_members, put}
use Rattle.serde_json.specs.Read.{of_json, of_items, of_members, converted}
use Rattle.fc_docs.specs.Direct.{data_of}

abbrev pick : {A : Type 0} → A → Option A → A
pick d None = d
pick d (Some a) = a

found : {A B : Type 0} (a : A) (r s : List Token) (x : Option B) (b : B) → option_map {U = B × List Token} (λ y. (y, r)) x ≡ Some (b, s) → (r ≡ s) × (x ≡ Some b)
found a r s None b e = absurd (cc)
found a r s (Some y) b e = let same = ap (pick (y, r)) e in (ap (λ p. p.1) same, ap (λ p. Some p.0) same)

pub converted_some : {A B : Type 0} (f : A → Option B) (o : Option (A × List Token)) (b : B) (r : List Token) → converted f o ≡ Some (b, r) → (a : A) × (o ≡ Some (a, r)) × (f a ≡ Some b)
converted_some f None b r e = absurd (cc)
converted_some f (Some p) b r e = let both = found p.0 p.1 r (f p.0) b e in (p.0, ap (λ s. Some (p.0, s)) both.0, both.1)

twice : {A B : Type 0} (g : A → B) (r : List Token) (x : Option A) → option_map (λ b. (b, r)) (option_map g x) ≡ parse_map g (option_map (λ a. (a, r)) x)
twice g r None = refl
twice g r (Some a) = refl

converted-array : (o : Option (json.Items × List Token)) → converted of_json (parse_map json.array o) ≡ parse_map array (converted of_items o)
converted-array None = refl
converted-array (Some p) = twice array p.1 (of_items p.0)

converted-object : (o : Option (json.Members × List Token)) → converted of_json (parse_map json.object o) ≡ parse_map object (converted (λ ms. of_members ms no_members) o)
converted-object None = refl
converted-object (Some p) = twice object p.1 (of_members p.0 no_members)

with_item : (j : json.Json) (d : Data) → of_json j ≡ Some d → (o : Option (json.Items × List Token)) → converted of_items (parse_map (json.item j) o) ≡ parse_map (item d) (converted of_items o)
with_item j d e None = refl
with_item j d e (Some p) = rw e (twice (item d) p.1 (of_items p.0))

with_member : (k : List ℕ) (j : json.Json) (d : Data) (old : Members) → of_json j ≡ Some d → (o : Option (json.Members × List Token))
    → converted (λ ms. of_members ms old) (parse_map (json.member k j) o) ≡ converted (λ ms. of_members ms (put k d old)) o
with_member k j d old e None = refl
with_member k j d old e (Some p) = rw e

-- ---- a token that is a value by itself

alone : (arrays : Parse json.Items) (objects : Parse json.Members) (t : Token) (r : List Token) (d : Data) → data_of t ≡ Some d → converted of_json (value_with arrays objects (t ∷ r)) ≡ Some (d, r)
alone arrays objects (Token.string s) r d e = ap (option_map (λ b. (b, r))) e
alone arrays objects (Token.number s) r d e = ap (option_map (λ b. (b, r))) e
alone arrays objects (Token.boolean b) r d e = ap (option_map (λ b. (b, r))) e
alone arrays objects Token.null r d e = ap (option_map (λ b. (b, r))) e
alone arrays objects Token.begin_object r d e = absurd (cc)
alone arrays objects Token.end_object r d e = absurd (cc)
alone arrays objects Token.begin_array r d e = absurd (cc)
alone arrays objects Token.end_array r d e = absurd (cc)
alone arrays objects (Token.key s) r d e = absurd (cc)
alone arrays objects Token.bad r d e = absurd (cc)

pub token_alone : (depth : ℕ) (t : Token) (r : List Token) (d : Data) → data_of t ≡ Some d → converted of_json (value depth (t ∷ r)) ≡ Some (d, r)
token_alone depth t r d e = ap (converted of_json) (value_is depth (t ∷ r)) ∙ alone _ _ t r d e

-- ---- an array and an object, of which the first token has been read

pub array_opened : (depth : ℕ) (ts : List Token) → 0 < depth
    → converted of_json (value depth (Token.begin_array ∷ ts)) ≡ parse_map array (converted of_items (items (value (depth - 1)) (length ts) ts))
array_opened depth ts some = ap (converted of_json) (value-begin_array depth ts some) ∙ converted-array (items (value (depth - 1)) (length ts) ts)

pub object_opened : (depth : ℕ) (ts : List Token) → 0 < depth
    → converted of_json (value depth (Token.begin_object ∷ ts)) ≡ parse_map object (converted (λ ms. of_members ms no_members) (members (value (depth - 1)) (length ts) ts))
object_opened depth ts some = ap (converted of_json) (value-begin_object depth ts some) ∙ converted-object (members (value (depth - 1)) (length ts) ts)

-- ---- a turn

module _ (p : Parse json.Json) where
  pub item_read : (n : ℕ) (ts r : List Token) (d : Data) → 0 < n → after_end_array ts ≡ None → converted of_json (p ts) ≡ Some (d, r)
      → converted of_items (items p n ts) ≡ parse_map (item d) (converted of_items (items p (n - 1) r))
  item_read n ts r d some going e = let j = converted_some of_json (p ts) d r e in ap (converted of_items) (items_more p n ts r j.0 some going j.1) ∙ with_item j.0 d j.2 _

  pub items_over : (n : ℕ) (ts r : List Token) → length ts ≤ n → after_end_array ts ≡ Some r → converted of_items (items p n ts) ≡ Some (no_items, r)
  items_over n ts r enough e = ap (converted of_items) (items_end p n ts r enough e)

  module _ (old : Members) where
    pub member_read : (n : ℕ) (k : List ℕ) (ts s r : List Token) (d : Data) → 0 < n → read_key ts ≡ Some (Some k, s) → converted of_json (p s) ≡ Some (d, r)
        → converted (λ ms. of_members ms old) (members p n ts) ≡ converted (λ ms. of_members ms (put k d old)) (members p (n - 1) r)
    member_read n k ts s r d some key e =
        let j = converted_some of_json (p s) d r e in
        ap (converted (λ ms. of_members ms old)) (members_more p n k ts s r j.0 some key j.1) ∙ with_member k j.0 d old j.2 _

    pub members_over : (n : ℕ) (ts r : List Token) → length ts ≤ n → read_key ts ≡ Some (None, r) → converted (λ ms. of_members ms old) (members p n ts) ≡ Some (old, r)
    members_over n ts r enough e = ap (converted (λ ms. of_members ms old)) (members_end p n ts r enough e)

-- ---- items that are put behind others

abbrev pub items_before : List Data → Items → Items
items_before [] rest = rest
items_before (d ∷ ds) rest = item d (items_before ds rest)

items_push : (ds : List Data) (d : Data) (rest : Items) → items_before ds (item d rest) ≡ items_before (ds ++ d ∷ []) rest
items_push [] d rest = refl
items_push (e ∷ ds) d rest = ap (item e) (items_push ds d rest)

pub one_more_item : (ds : List Data) (d : Data) (r : Option (Items × List Token)) → parse_map (items_before ds) (parse_map (item d) r) ≡ parse_map (items_before (ds ++ d ∷ [])) r
one_more_item ds d None = refl
one_more_item ds d (Some p) = ap (λ es. Some (es, p.1)) (items_push ds d p.0)

pub none_before : (r : Option (Items × List Token)) → r ≡ parse_map (items_before []) r
none_before None = refl
none_before (Some p) = refl

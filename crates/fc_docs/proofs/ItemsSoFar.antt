-- The items of an array, read from tokens, as far as they have been read.
use Rattle.std.proofs.Common.{◌≡◌, ℕ, ◌+◌, ◌-◌, ◌≤◌, List, [], ◌∷◌, ◌++◌, length, All, IsTrue, Bool, true, false, Some, None, Result, Ok, Err, refl, sym, ap, ◌∙◌, append_assoc, arith}
use Rattle.std.proofs.lemmas.List.Elements.{All-append, All-cons, All-nil}
use Rattle.std.specs.Bool.{OnTrue}
use Rattle.json.specs.Token.{Token}
use Rattle.json.specs.Json.{parse_map, after_end_array, items, value}
use Rattle.serde_json.specs.Data.{Data, null, boolean, number, string, array, object, Items, no_items, item}
use Rattle.serde_json.specs.Read.{of_json, of_items, converted}
use Rattle.fc_spec.specs.documents.Val.{Val}
use Rattle.fc_spec.specs.documents.Schema as schema
use Rattle.fc_spec.specs.documents.Schema.{FieldType}
use Rattle.fc_spec.specs.documents.BlockReading.{items_in, takes, value_of, without_nulls}
use Rattle.fc_spec.specs.documents.ValidBlocks.{is_value_of}
use Rattle.fc_spec.specs.words.Walks.{◌>>=◌, each}
use Rattle.fc_docs.specs.Direct.{data_of, Given, giving, GivesItem, GivesValues}
use Rattle.fc_docs.proofs.JsonTokens.{token_alone, array_opened, item_read, items_over, items_before, one_more_item, none_before}
use Rattle.fc_docs.proofs.Takes.{takes_none, takes_one}

-- of an array's tokens `all`, those before `rest` are items that give these values
pub record ItemsSoFar (kind : FieldType) (all rest : List Token) (vs : List Val) : Type 0 where
  pub said : List Data
  pub turns : ℕ
  pub enough : length rest ≤ turns
  pub read : (depth : ℕ) → converted of_items (items (value depth) (length all) all) ≡ parse_map (items_before said) (converted of_items (items (value depth) turns rest))
  pub values : each (value_of kind) (without_nulls (items_before said no_items)) ≡ Ok vs
  pub valid : All (λ v. IsTrue (is_value_of kind v)) vs

pub none_so_far : (kind : FieldType) (all : List Token) → ItemsSoFar kind all all []
none_so_far kind all = record { said = []; turns = length all; enough = omega arith; read = λ depth. none_before _; values = refl; valid = All-nil _ }

-- ---- one more item

with_nothing : (d : Data) (ds : Items) → without_nulls (item d ds) ≡ without_nulls (item d no_items) ++ without_nulls ds
with_nothing null ds = refl
with_nothing (boolean b) ds = refl
with_nothing (number n) ds = refl
with_nothing (string s) ds = refl
with_nothing (array es) ds = refl
with_nothing (object ms) ds = refl

put_before : {B E : Type 0} (b : B) (found all : Result (List B) E) (bs cs : List B) → ((ds : List B) → found ≡ Ok ds → all ≡ Ok (ds ++ cs))
    → found >>= (λ ds. Ok (b ∷ ds)) ≡ Ok bs → all >>= (λ ds. Ok (b ∷ ds)) ≡ Ok (bs ++ cs)
put_before b (Ok ds) all bs cs again e = let same : bs ≡ b ∷ ds = cc in rw (again ds refl, same) refl
put_before b (Err x) all bs cs again e = absurd (cc)

first_then : {B E : Type 0} (first : Result B E) (found all : Result (List B) E) (bs cs : List B) → ((ds : List B) → found ≡ Ok ds → all ≡ Ok (ds ++ cs))
    → first >>= (λ b. found >>= λ ds. Ok (b ∷ ds)) ≡ Ok bs → first >>= (λ b. all >>= λ ds. Ok (b ∷ ds)) ≡ Ok (bs ++ cs)
first_then (Ok b) found all bs cs again e = put_before b found all bs cs again e
first_then (Err x) found all bs cs again e = absurd (cc)

each_behind : {A B E : Type 0} (step : A → Result B E) (done more : List A) (bs cs : List B) → each step done ≡ Ok bs → each step more ≡ Ok cs → each step (done ++ more) ≡ Ok (bs ++ cs)
each_behind step [] more bs cs e f = let none : bs ≡ [] = cc in rw none f
each_behind step (a ∷ done) more bs cs e f = first_then (step a) (each step done) (each step (done ++ more)) bs cs (λ ds is. each_behind step done more ds cs is f) e

behind_others : (ds : List Data) (d : Data) → without_nulls (items_before (ds ++ d ∷ []) no_items) ≡ without_nulls (items_before ds no_items) ++ without_nulls (item d no_items)
behind_others [] d = refl
behind_others (e ∷ ds) d =
    with_nothing e _ ∙ ap (λ es. without_nulls (item e no_items) ++ es) (behind_others ds d) ∙ sym (append_assoc (without_nulls (item e no_items)) _ _) ∙ ap (λ es. es ++ without_nulls (item d no_items)) (sym (with_nothing e _))

one_value : (kind : FieldType) (ds : List Data) (d : Data) (vs ws : List Val)
    → each (value_of kind) (without_nulls (items_before ds no_items)) ≡ Ok vs → each (value_of kind) (without_nulls (item d no_items)) ≡ Ok ws
    → each (value_of kind) (without_nulls (items_before (ds ++ d ∷ []) no_items)) ≡ Ok (vs ++ ws)
one_value kind ds d vs ws e f = rw (behind_others ds d) (each_behind (value_of kind) _ _ vs ws e f)

pub one_more : (kind : FieldType) (all ts r : List Token) (t : Token) (d : Data) (vs ws : List Val) → ItemsSoFar kind all ts vs → after_end_array ts ≡ None → ts ≡ t ∷ r → data_of t ≡ Some d
    → each (value_of kind) (without_nulls (item d no_items)) ≡ Ok ws → All (λ v. IsTrue (is_value_of kind v)) ws → ItemsSoFar kind all r (vs ++ ws)
one_more kind all ts r t d vs ws so_far going next is values valid =
    let shorter : length ts ≡ length r + 1 = rw next (omega arith) in
    let turn = λ (depth : ℕ). item_read (value depth) so_far.turns ts r d (omega (arith, so_far.enough)) going (ap (λ x. converted of_json (value depth x)) next ∙ token_alone depth t r d is) in
    record {
      said = so_far.said ++ d ∷ [];
      turns = so_far.turns - 1;
      enough = omega (arith, so_far.enough);
      read = λ depth. so_far.read depth ∙ ap (parse_map (items_before so_far.said)) (turn depth) ∙ one_more_item so_far.said d _;
      values = one_value kind so_far.said d vs ws so_far.values values;
      valid = All-append (λ v. IsTrue (is_value_of kind v)) vs ws so_far.valid valid;
    }

-- ---- the end of the array

all_read : (kind : FieldType) (all ts r : List Token) (vs : List Val) → ItemsSoFar kind all ts vs → after_end_array ts ≡ Some r → takes kind (length vs) ≡ true → GivesValues kind (Token.begin_array ∷ all) r vs
all_read kind all ts r vs so_far end few =
    record {
      said = array (items_before so_far.said no_items);
      spells = λ depth some. array_opened depth all some ∙ ap (parse_map array) (so_far.read (depth - 1) ∙ ap (parse_map (items_before so_far.said)) (items_over (value (depth - 1)) so_far.turns ts r so_far.enough end));
      values = so_far.values;
      few = few;
      valid = so_far.valid;
    }

-- ---- a value that is no array

pub alone_is_null : (kind : FieldType) (r : List Token) → GivesValues kind (Token.null ∷ r) r []
alone_is_null kind r = record { said = null; spells = λ depth some. token_alone depth Token.null r null refl; values = refl; few = takes_none kind; valid = All-nil _ }

-- one item gives its value
only : {A B E : Type 0} (step : A → Result B E) (a : A) (b : B) → step a ≡ Ok b → each step (a ∷ []) ≡ Ok (b ∷ [])
only step a b e = rw e refl

-- what a field takes as a value is no array and not null
itself : (kind : FieldType) (d : Data) (v : Val) → value_of kind d ≡ Ok v → (items_in d ≡ d ∷ []) × (without_nulls (item d no_items) ≡ d ∷ [])
itself kind (boolean b) v e = (refl, refl)
itself kind (number n) v e = (refl, refl)
itself kind (string s) v e = (refl, refl)
itself kind (object ms) v e = (refl, refl)
itself schema.string null v e = absurd (cc)
itself schema.strings null v e = absurd (cc)
itself schema.plong null v e = absurd (cc)
itself schema.plongs null v e = absurd (cc)
itself schema.pdate null v e = absurd (cc)
itself schema.pdates null v e = absurd (cc)
itself schema.string (array ds) v e = absurd (cc)
itself schema.strings (array ds) v e = absurd (cc)
itself schema.plong (array ds) v e = absurd (cc)
itself schema.plongs (array ds) v e = absurd (cc)
itself schema.pdate (array ds) v e = absurd (cc)
itself schema.pdates (array ds) v e = absurd (cc)

item_alone : (kind : FieldType) (t : Token) (r : List Token) (v : Val) → GivesItem kind t v → GivesValues kind (t ∷ r) r (v ∷ [])
item_alone kind t r v g =
    record {
      said = g.said;
      spells = λ depth some. token_alone depth t r g.said g.is;
      values = ap (each (value_of kind)) (itself kind g.said v g.value).0 ∙ only (value_of kind) g.said v g.value;
      few = takes_one kind;
      valid = All-cons (λ x. IsTrue (is_value_of kind x)) v [] g.valid (All-nil _);
    }

item_among : (kind : FieldType) (t : Token) (v : Val) (g : GivesItem kind t v) → each (value_of kind) (without_nulls (item g.said no_items)) ≡ Ok (v ∷ [])
item_among kind t v g = ap (each (value_of kind)) (itself kind g.said v g.value).1 ∙ only (value_of kind) g.said v g.value

-- ---- what is told of tokens and of what was given

pub told_item : (told : Bool) (kind : FieldType) (t : Token) (before after : Given) (n : ℕ) → OnTrue told ((v : Val) × GivesItem kind t v × (after ≡ before ++ giving n (v ∷ [])))
    → OnTrue told ((d : Data) × (vs : List Val) × (data_of t ≡ Some d) × (each (value_of kind) (without_nulls (item d no_items)) ≡ Ok vs) × All (λ v. IsTrue (is_value_of kind v)) vs × (after ≡ before ++ giving n vs))
told_item true kind t before after n one = (one.1.said, one.0 ∷ [], one.1.is, item_among kind t one.0 one.1, All-cons (λ v. IsTrue (is_value_of kind v)) one.0 [] one.1.valid (All-nil _), one.2)
told_item false kind t before after n one = tt

pub told_items : (told : Bool) (kind : FieldType) (all ts r : List Token) (before after : Given) (n : ℕ) (vs : List Val) → ItemsSoFar kind all ts vs → after_end_array ts ≡ Some r → told ≡ takes kind (length vs)
    → after ≡ before ++ giving n vs → OnTrue told ((ws : List Val) × GivesValues kind (Token.begin_array ∷ all) r ws × (after ≡ before ++ giving n ws))
told_items true kind all ts r before after n vs so_far end few given = (vs, all_read kind all ts r vs so_far end (sym few), given)
told_items false kind all ts r before after n vs so_far end few given = tt

pub told_alone : (told : Bool) (kind : FieldType) (t : Token) (old r : List Token) (before after : Given) (n : ℕ) → old ≡ t ∷ r → OnTrue told ((v : Val) × GivesItem kind t v × (after ≡ before ++ giving n (v ∷ [])))
    → OnTrue told ((ws : List Val) × GivesValues kind old r ws × (after ≡ before ++ giving n ws))
told_alone true kind t old r before after n next one = (one.0 ∷ [], rw next (item_alone kind t r one.0 one.1), one.2)
told_alone false kind t old r before after n next one = tt

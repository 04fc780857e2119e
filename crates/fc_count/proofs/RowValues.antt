-- Rows of values in one list, and the documents that they are of.
use Rattle.std.proofs.Common.{◌≡◌, ◌<◌, ◌≤◌, ◌+◌, ◌-◌, ◌*◌, ℕ, zero, suc, List, [], ◌∷◌, ◌++◌, length, map, get_or, take, drop, slice_range, All, refl, sym, ap, ap₂, subst, ◌∙◌, arith, append-nil, length-append}
use Rattle.std.specs.List.{flat_map}
use Rattle.std.proofs.Math.Nat.{add_comm, mul-le-mul_right, suc-mul, zero-mul}
use Rattle.std.proofs.Math.Seq.{drop-append-add}
use Rattle.std.proofs.lemmas.List.{length-map, map-append, take_at, take_more, take-append-drop}
use Rattle.std.proofs.lemmas.List.Concat.{flat_map-cons}
use Rattle.std.proofs.lemmas.List.Elements.{All-head, All-tail}
use Rattle.std.proofs.lemmas.Grind.{flat_map-append}
use Rattle.std.specs.List.{drop-map, take-map}
use Rattle.fc_spec.specs.documents.Document.{Block}
use Rattle.fc_spec.specs.documents.World.{Place}
use Rattle.fc_spec.specs.requests.Request.{Stat}
use Rattle.fc_spec.specs.requests.Statistics.{StatValue, value_over}
use Rattle.fc_partial.specs.declared.statistics.StatValue as code
use Rattle.fc_partial.specs.Fitting.{StatisticsFit}
use Rattle.fc_partial.specs.View.{stat_value_view}
use Rattle.fc_partial.proofs.Fitting.{front_fits}
use Rattle.fc_kind.specs.PlaceAt.{place_at}
use Rattle.fc_count.specs.declared.countings.Entry.{Entry}
use Rattle.fc_count.specs.Rows.{AreOfFitting, rows_of, values_at, values_of_place}
use Rattle.fc_count.proofs.RowPlaces.{row_places}

-- ---- lists of one length, in one list
module _ {X : Type 0} (g : ℕ → List X) (w : ℕ) (even : (at : ℕ) → length (g at) ≡ w) where
  flat_length : (ps : List ℕ) → length (flat_map g ps) ≡ length ps * w
  flat_length [] = sym (zero-mul w)
  flat_length (p ∷ ps) =
      ap length (flat_map-cons g p ps) ∙ length-append (g p) (flat_map g ps) ∙ ap₂ (λ a b. a + b) (even p) (flat_length ps) ∙ add_comm w (length ps * w) ∙ sym (suc-mul (length ps) w)

  flat_row : (ps : List ℕ) (row : ℕ) → row < length ps → take w (drop (row * w) (flat_map g ps)) ≡ g (get_or ps row 0)
  flat_row [] row h = absurd (omega arith)
  flat_row (p ∷ ps) zero h = ap (λ l. take w (drop (0 * w) l)) (flat_map-cons g p ps) ∙ (rw zero-mul (take_at (g p) (flat_map g ps) w (even p)))
  flat_row (p ∷ ps) (suc row) h =
      ap₂ (λ n l. take w (drop n l)) (suc-mul row w ∙ add_comm (row * w) w ∙ ap (λ n. n + row * w) (sym (even p))) (flat_map-cons g p ps)
      ∙ ap (take w) (drop-append-add (g p) (flat_map g ps) (row * w)) ∙ flat_row ps row (omega arith)

-- ---- the rows of the documents at positions
values_even : (ss : List Stat) (p : Place) → length (values_of_place ss p) ≡ length ss
values_even ss p = length-map ss (λ s. value_over s (p ∷ []))

module _ (blocks : List Block) (ss : List Stat) (ps : List ℕ) (rows : List code.StatValue) (width : ℕ) (wide : width ≡ length ss) (read : map stat_value_view rows ≡ values_at blocks ss ps) where
  abbrev g : ℕ → List StatValue
  g at = values_of_place ss (place_at blocks at)

  even : (at : ℕ) → length (g at) ≡ width
  even at = values_even ss (place_at blocks at) ∙ sym wide

  whole : length rows ≡ length ps * width
  whole = sym (length-map rows stat_value_view) ∙ ap length read ∙ flat_length g width even ps

  pub row_within : (row : ℕ) → row < length ps → row * width + width ≤ length rows
  row_within row h = omega (arith, whole, mul-le-mul_right {m = suc row} {n = length ps} width (omega arith), suc-mul row width)

  pub all_within : (es : List Entry) → All (λ e. e.row < length ps) es → All (λ e. e.row * width + width ≤ length rows) es
  all_within es there = λ k d inside. row_within (get_or es k d).row (there k d inside)

  row_read : (row : ℕ) → row < length ps → map stat_value_view (slice_range rows (row * width) (row * width + width)) ≡ g (get_or ps row 0)
  row_read row h =
      let n : row * width + width - row * width ≡ width = omega arith in
      ap (λ m. map stat_value_view (take m (drop (row * width) rows))) n
      ∙ sym (ap (take width) (drop-map stat_value_view (row * width) rows) ∙ take-map stat_value_view width (drop (row * width) rows))
      ∙ ap (λ l. take width (drop (row * width) l)) read ∙ flat_row g width even ps row h

  pub rows_read : (es : List Entry) → All (λ e. e.row < length ps) es → rows_of width rows es ≡ map (values_of_place ss) (row_places blocks ps es)
  rows_read [] there = refl
  rows_read (e ∷ es) there =
      ap₂ (λ r rs. r ∷ rs) (row_read e.row (All-head (λ (x : Entry). x.row < length ps) e es there)) (rows_read es (All-tail (λ (x : Entry). x.row < length ps) e es there))

-- the same of slices of them
pub read_in : (blocks : List Block) (ss : List Stat) (ps qs : List ℕ) (rows items : List code.StatValue) → rows ≡ items → qs ≡ ps → map stat_value_view items ≡ values_at blocks ss qs
    → map stat_value_view rows ≡ values_at blocks ss ps
read_in blocks ss ps qs rows items same_rows same_positions read = ap (map stat_value_view) same_rows ∙ read ∙ ap (values_at blocks ss) same_positions

-- one position more
pub more_values : (blocks : List Block) (ss : List Stat) (ps : List ℕ) (i : ℕ) → i < length ps
    → values_at blocks ss (take (i + 1) ps) ≡ values_at blocks ss (take i ps) ++ values_of_place ss (place_at blocks (get_or ps i 0))
more_values blocks ss ps i here =
    let g : ℕ → List StatValue = λ at. values_of_place ss (place_at blocks at) in
    ap (flat_map g) (take_more ps i 0 here) ∙ flat_map-append g (take i ps) (get_or ps i 0 ∷ [])
    ∙ ap (λ l. flat_map g (take i ps) ++ l) (flat_map-cons g (get_or ps i 0) [] ∙ append-nil (g (get_or ps i 0)))

-- ---- which documents rows are of
abbrev tail_of : {X : Type 0} → List X → List X
tail_of [] = []
tail_of (x ∷ xs) = xs

pub record IsOneMore {X Y : Type 0} (f : X → Y) (xs : List X) (ys : List Y) (y : Y) : Type 0 where
  pub front : List X
  pub last : X
  pub all : xs ≡ front ++ last ∷ []
  pub same : ys ≡ map f front
  pub same_last : y ≡ f last

pub one_more : {X Y : Type 0} (f : X → Y) (xs : List X) (ys : List Y) (y : Y) → ys ++ y ∷ [] ≡ map f xs → IsOneMore f xs ys y
one_more f [] ys y h = absurd (omega (arith, ap length h, length-append ys (y ∷ [])))
one_more f (x ∷ []) [] y h = record { front = []; last = x; all = refl; same = refl; same_last = ap (λ l. get_or l 0 y) h }
one_more f (x ∷ z ∷ xs) [] y h = absurd (omega (arith, ap length h))
one_more f (x ∷ xs) (u ∷ ys) y h =
    let rest = one_more f xs ys y (ap tail_of h) in
    record {
      front = x ∷ rest.front;
      last = rest.last;
      all = ap (λ l. x ∷ l) rest.all;
      same = ap₂ (λ a l. a ∷ l) (ap (λ l. get_or l 0 u) h) rest.same;
      same_last = rest.same_last;
    }

-- ---- a run, row by row
pub rows_more : (width : ℕ) (rows : List code.StatValue) (first : Entry) (es : List Entry) (i : ℕ) (d : Entry) → i < length es
    → rows_of width rows (first ∷ take (i + 1) es) ≡ rows_of width rows (first ∷ take i es) ++ map stat_value_view (slice_range rows ((get_or es i d).row * width) ((get_or es i d).row * width + width)) ∷ []
rows_more width rows first es i d here =
    let row : Entry → List StatValue = λ e. map stat_value_view (slice_range rows (e.row * width) (e.row * width + width)) in
    ap (λ l. map row (first ∷ l)) (take_more es i d here) ∙ map-append row (first ∷ take i es) (get_or es i d ∷ [])

-- the front of fitting rows fits
pub front_of_fitting : (ss : List Stat) (width : ℕ) (rows : List code.StatValue) (first : Entry) (es : List Entry) (i : ℕ) → AreOfFitting ss (rows_of width rows (first ∷ es)) → AreOfFitting ss (rows_of width rows (first ∷ take i es))
front_of_fitting ss width rows first es i h =
    let row : Entry → List StatValue = λ e. map stat_value_view (slice_range rows (e.row * width) (e.row * width + width)) in
    let X = h.places in
    record {
      places = take (suc i) X;
      same = sym (take-map row (suc i) (first ∷ es)) ∙ ap (take (suc i)) h.same ∙ take-map (values_of_place ss) (suc i) X;
      fit = front_fits (take (suc i) X) (drop (suc i) X) (subst StatisticsFit (sym (take-append-drop (suc i) X)) h.fit);
    }

pub only_one : {X Y : Type 0} (f : X → Y) (xs : List X) (y : Y) → y ∷ [] ≡ map f xs → (x : X) × (xs ≡ x ∷ []) × (y ≡ f x)
only_one f [] y h = absurd (omega (arith, ap length h))
only_one f (x ∷ []) y h = (x, refl, ap (λ l. get_or l 0 y) h)
only_one f (x ∷ z ∷ xs) y h = absurd (omega (arith, ap length h))

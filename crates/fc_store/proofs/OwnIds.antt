-- What operations leave of blocks of different ids are blocks of different ids.
use Rattle.std.proofs.Common.{◌≡◌, List, [], ◌∷◌, ◌++◌, Bool, true, false, not, cond, map, refl, sym, ap, ap₂, subst, ◌∙◌, append-nil, append_assoc}
use Rattle.std.specs.List.{filter}
use Rattle.fc_spec.specs.documents.Val.{Text}
use Rattle.fc_spec.specs.documents.Document.{Block, Op, adding, deleting}
use Rattle.fc_spec.specs.documents.Operations.{id_of, has_id, without_blocks_of, after_op, after_ops}
use Rattle.fc_store.specs.OwnIds.{HaveOwnIds}

-- no block has the id of one behind it
abbrev pub LacksLater : Block → List Block → Type 0
LacksLater b [] = Unit {0}
LacksLater b (c ∷ blocks) = (has_id (id_of c) b ≡ false) × LacksLater b blocks

abbrev pub AreApart : List Block → Type 0
AreApart [] = Unit {0}
AreApart (b ∷ blocks) = LacksLater b blocks × AreApart blocks

-- ---- fewer blocks, and one more

lacks_fewer : (test : Block → Bool) (b : Block) (blocks : List Block) → LacksLater b blocks → LacksLater b (filter test blocks)
lacks_fewer test b [] lacks = tt
lacks_fewer test b (c ∷ blocks) lacks = go (test c) (lacks_fewer test b blocks lacks.1)
  where
    go : (t : Bool) → LacksLater b (filter test blocks) → LacksLater b (cond t (c ∷ filter test blocks) (filter test blocks))
    go true rest = (lacks.0, rest)
    go false rest = rest

apart_fewer : (test : Block → Bool) (blocks : List Block) → AreApart blocks → AreApart (filter test blocks)
apart_fewer test [] are = tt
apart_fewer test (b ∷ blocks) are = go (test b) (lacks_fewer test b blocks are.0) (apart_fewer test blocks are.1)
  where
    go : (t : Bool) → LacksLater b (filter test blocks) → AreApart (filter test blocks) → AreApart (cond t (b ∷ filter test blocks) (filter test blocks))
    go true lacks rest = (lacks, rest)
    go false lacks rest = rest

lacks_push : (b : Block) (blocks : List Block) (last : Block) → LacksLater b blocks → has_id (id_of last) b ≡ false → LacksLater b (blocks ++ last ∷ [])
lacks_push b [] last lacks other = (other, tt)
lacks_push b (c ∷ blocks) last lacks other = (lacks.0, lacks_push b blocks last lacks.1 other)

-- none of the blocks has the id
abbrev pub NoneHas : Text → List Block → Type 0
NoneHas x [] = Unit {0}
NoneHas x (b ∷ blocks) = (has_id x b ≡ false) × NoneHas x blocks

apart_push : (blocks : List Block) (last : Block) → AreApart blocks → NoneHas (id_of last) blocks → AreApart (blocks ++ last ∷ [])
apart_push [] last are none = (tt, tt)
apart_push (b ∷ blocks) last are none = (lacks_push b blocks last are.0 none.0, apart_push blocks last are.1 none.1)

none_has : (x : Text) (blocks : List Block) → NoneHas x (without_blocks_of x blocks)
none_has x [] = tt
none_has x (b ∷ blocks) = go (has_id x b) refl (none_has x blocks)
  where
    go : (t : Bool) → has_id x b ≡ t → NoneHas x (without_blocks_of x blocks) → NoneHas x (cond (not t) (b ∷ without_blocks_of x blocks) (without_blocks_of x blocks))
    go true is rest = rest
    go false is rest = (is, rest)

-- ---- operations

apart_op : (blocks : List Block) (op : Op) → AreApart blocks → AreApart (after_op blocks op)
apart_op blocks (adding b) are = apart_push (without_blocks_of (id_of b) blocks) b (apart_fewer (λ c. not (has_id (id_of b) c)) blocks are) (none_has (id_of b) blocks)
apart_op blocks (deleting x) are = apart_fewer (λ c. not (has_id x c)) blocks are

apart_ops : (blocks : List Block) (ops : List Op) → AreApart blocks → AreApart (after_ops blocks ops)
apart_ops blocks [] are = are
apart_ops blocks (op ∷ ops) are = apart_ops (after_op blocks op) ops (apart_op blocks op are)

-- ---- blocks that are apart stay when they are added one after another

first_apart : (front : List Block) (b : Block) (blocks : List Block) → AreApart (front ++ b ∷ blocks) → NoneHas (id_of b) front
first_apart [] b blocks are = tt
first_apart (f ∷ front) b blocks are = (here front are.0, first_apart front b blocks are.1)
  where
    here : (rest : List Block) → LacksLater f (rest ++ b ∷ blocks) → has_id (id_of b) f ≡ false
    here [] lacks = lacks.0
    here (r ∷ rest) lacks = here rest lacks.1

all_stay : (x : Text) (blocks : List Block) → NoneHas x blocks → without_blocks_of x blocks ≡ blocks
all_stay x [] none = refl
all_stay x (b ∷ blocks) none = ap₂ (λ t l. cond (not t) (b ∷ l) l) none.0 (all_stay x blocks none.1)

added_stay : (front blocks : List Block) → AreApart (front ++ blocks) → after_ops front (map adding blocks) ≡ front ++ blocks
added_stay front [] are = sym (append-nil front)
added_stay front (b ∷ blocks) are =
    ap (λ l. after_ops (l ++ b ∷ []) (map adding blocks)) (all_stay (id_of b) front (first_apart front b blocks are))
    ∙ added_stay (front ++ b ∷ []) blocks (subst AreApart (sym (append_assoc front (b ∷ []) blocks)) are)
    ∙ append_assoc front (b ∷ []) blocks

pub own_ids_after : (blocks : List Block) (ops : List Op) → HaveOwnIds blocks → HaveOwnIds (after_ops blocks ops)
own_ids_after blocks ops own =
    let are : AreApart blocks = subst AreApart own (apart_ops [] (map adding blocks) tt) in
    added_stay [] (after_ops blocks ops) (apart_ops blocks ops are)

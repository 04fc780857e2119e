-- Segments that a generation shares.
use Rattle.std.proofs.Common.{◌≡◌, ℕ, List, [], ◌∷◌, map, All, false, None, Some, sym, ◌∙◌, ap, subst, refl}
use Rattle.std.proofs.lemmas.List.Elements.{All-cons, All-head, All-nil, All-tail}
use Rattle.fc_spec.specs.documents.Document.{Block}
use Rattle.fc_spec.specs.documents.Live.{HasWholeBlocks}
use Rattle.fc_spec.specs.documents.Schema.{Schema, texts_held}
use Rattle.fc_spec.specs.messages.Message as message
use Rattle.fc_spec.specs.requests.ValidRequests.{IsSearchable}
use Rattle.fc_spec.specs.scripts.WorldLimits.{IsWithinLimits}
use Rattle.fc_spec.specs.words.Lists.{joined}
use Rattle.fc_request.specs.RequestView.{IsRoot, request_view}
use Rattle.fc_request.specs.declared.request.Request.{Request}
use Rattle.fc_refine.specs.AskView.{ask_view}
use Rattle.fc_segment.specs.Merged.{live_blocks, live_blocks_of}
use Rattle.fc_segment.specs.Segmented.{Segmented}
use Rattle.fc_store.specs.Generated.{Generated}
use Rattle.fc_answers.specs.SetAnswer.{AreWhole, Piece, live_world}
use Rattle.fc_jobs.specs.Pieces.{piece_of, pieces_in}
use Rattle.fc_units.specs.Built.{CanAnswer}
use Rattle.fc_phase.specs.Futures.{IsBegun, IsLeastBegun}
use Rattle.fc_phase.specs.Phases.{Phase}

each_live : (gs : List Segmented) → live_world (pieces_in gs) ≡ map live_blocks gs
each_live [] = refl
each_live (g ∷ gs) = ap (λ V. live_blocks g ∷ V) (each_live gs)

-- their live blocks are the generation's
pub shared_blocks : (gs : List Segmented) (blocks : List Block) → live_blocks_of gs ≡ blocks → joined (live_world (pieces_in gs)) ≡ blocks
shared_blocks gs blocks is = ap joined (each_live gs) ∙ is

are_whole : (gs : List Segmented) → All (λ (g : Segmented). HasWholeBlocks g.blocks g.live) gs → AreWhole (pieces_in gs)
are_whole [] all = All-nil (λ (p : Piece). HasWholeBlocks p.blocks p.live)
are_whole (g ∷ gs) all =
    All-cons (λ (p : Piece). HasWholeBlocks p.blocks p.live) (piece_of g) (pieces_in gs) (All-head (λ (x : Segmented). HasWholeBlocks x.blocks x.live) g gs all)
    (are_whole gs (All-tail (λ (x : Segmented). HasWholeBlocks x.blocks x.live) g gs all))

-- over them a request can be answered
pub can_answer : (s : Schema) (gs : List Segmented) (request : Request) (blocks : List Block) → live_blocks_of gs ≡ blocks → All (λ (g : Segmented). g.texts ≡ texts_held s.fields) gs → All (λ (g : Segmented). HasWholeBlocks g.blocks g.live) gs
    → All (λ (g : Segmented). IsWithinLimits (g.blocks ∷ [])) gs → IsWithinLimits (blocks ∷ []) → IsRoot request.root → IsSearchable s (request_view request) → CanAnswer s gs request
can_answer s gs request blocks is kinds whole each limits root valid = record {
  columns = kinds;
  whole = are_whole gs whole;
  each = each;
  limits = subst (λ bs. IsWithinLimits (bs ∷ [])) (sym (shared_blocks gs blocks is)) limits;
  root = root;
  valid = valid;
}

-- ---- the segments gs that a generation g, read as h, shares

pub shared_can : (g h : Generated) (gs : List Segmented) (request : Request) → h ≡ g → live_blocks_of gs ≡ h.blocks → All (λ (x : Segmented). x.texts ≡ texts_held h.schema.fields) gs → All (λ (x : Segmented). HasWholeBlocks x.blocks x.live) gs
    → All (λ (x : Segmented). IsWithinLimits (x.blocks ∷ [])) gs → IsWithinLimits (g.blocks ∷ []) → IsRoot request.root → IsSearchable g.schema (request_view request) → (s : Schema) × CanAnswer s gs request
shared_can g h gs request same is kinds whole each limits root valid =
    (g.schema, can_answer g.schema gs request g.blocks (is ∙ ap (λ (x : Generated). x.blocks) same) (subst (λ (y : Generated). All (λ (x : Segmented). x.texts ≡ texts_held y.schema.fields) gs) same kinds) whole each limits root valid)

-- nothing is done over them
pub shared_begun : (g h : Generated) (gs : List Segmented) (request : Request) (ask : message.Ask) (p q : Phase) → h ≡ g → live_blocks_of gs ≡ h.blocks → p ≡ q → q.request ≡ request → ask_view q.ask ≡ ask → q.blocks ≡ joined (live_world (pieces_in gs))
    → q.done ≡ 0 → q.spent ≡ false → q.least ≡ None → IsBegun request g.blocks ask p
shared_begun g h gs request ask p q same is e r a b d s l = record {
  request_is = ap (λ (x : Phase). x.request) e ∙ r;
  ask_is = ap (λ (x : Phase). ask_view x.ask) e ∙ a;
  least_is = ap (λ (x : Phase). x.least) e ∙ l;
  blocks_are = ap (λ (x : Phase). x.blocks) e ∙ b ∙ shared_blocks gs g.blocks (is ∙ ap (λ (x : Generated). x.blocks) same);
  done = ap (λ (x : Phase). x.done) e ∙ d;
  fresh = ap (λ (x : Phase). x.spent) e ∙ s;
}

pub shared_least_begun : (g h : Generated) (gs : List Segmented) (request : Request) (ns ms : List ℕ) (p q : Phase) → h ≡ g → live_blocks_of gs ≡ h.blocks → p ≡ q → q.request ≡ request → q.least ≡ Some ms → ms ≡ ns → q.blocks ≡ joined (live_world (pieces_in gs))
    → q.done ≡ 0 → q.spent ≡ false → IsLeastBegun request g.blocks ns p
shared_least_begun g h gs request ns ms p q same is e r l copied b d s = record {
  request_is = ap (λ (x : Phase). x.request) e ∙ r;
  least_is = ap (λ (x : Phase). x.least) e ∙ l ∙ ap Some copied;
  blocks_are = ap (λ (x : Phase). x.blocks) e ∙ b ∙ shared_blocks gs g.blocks (is ∙ ap (λ (x : Generated). x.blocks) same);
  done = ap (λ (x : Phase). x.done) e ∙ d;
  fresh = ap (λ (x : Phase). x.spent) e ∙ s;
}

-- What all workers of a phase leave.
use Rattle.std.proofs.Common.{◌≡◌, ℕ, suc, List, [], ◌∷◌, map, set, refl, ◌∙◌, ap, arith}
use Rattle.std.specs.Prelude.{All, Result, false}
use Rattle.std.proofs.lemmas.List.Elements.{All-head, All-tail}
use Rattle.fc_spec.specs.replies.Replied.{replied}
use Rattle.fc_spec.specs.scripts.SearchLines.{AreSessionLines}
use Rattle.fc_request.specs.declared.fault.RequestFault.{RequestFault}
use Rattle.fc_request.specs.declared.request.Request.{Request}
use Rattle.fc_lines.specs.LineView.{asked_view}
use Rattle.fc_store.specs.Charters.{blocks_at, last_number}
use Rattle.fc_store.specs.Generated.{Generated}
use Rattle.fc_work.specs.Ends.{Ends, IsCalm, last_of, with_end, with_ends}
use Rattle.fc_work.specs.Opened.{Place, indexes_in, place_in, sessions_in}
use Rattle.fc_work.specs.Phased.{whole_of}
use Rattle.fc_work.specs.Pinned.{charters_of, least_of, most_of}
use Rattle.fc_work.specs.SearchLineView.{line_views}
use Rattle.fc_work.specs.Seated.{Seat, seat_in}
use Rattle.fc_work.specs.Working.{AllWorked, IsCommitted, Worked, asked_of}
use Rattle.fc_work.specs.declared.index_worker.IndexWorker.{IndexWorker}
use Rattle.fc_work.specs.declared.session_worker.SessionWorker.{SessionWorker}
use Rattle.fc_work.specs.declared.worker.Worker.{Worker}
use Rattle.fc_work.specs.declared.worker.Worker.TheVariants.{Index, Session}

-- the generation of a shard, at its number
abbrev pub Lasting : Type 0
Lasting = ℕ × Generated

-- that of its worker
abbrev pub last_at : IndexWorker → Lasting
last_at w = (w.shard, last_of w.writer)

-- with all of its charter
abbrev pub whole_at : Place → Lasting
whole_at p = (p.shard, whole_of p.writing)

-- generations are put at the numbers of their shards, one after another
abbrev pub put_all : List Lasting → List Generated → List Generated
put_all [] gs = gs
put_all (x ∷ xs) gs = put_all xs (set gs x.0 x.1)

pub ended_generations : (ws : List Worker) (e : Ends) → (with_ends ws e).generations ≡ put_all (map last_at (indexes_in ws)) e.generations
ended_generations [] e = refl
ended_generations (Index w ∷ ws) e = ended_generations ws (with_end (Index w) e)
ended_generations (Session w ∷ ws) e = ended_generations ws (with_end (Session w) e)

-- all of a charter is published
committed_is : (v w : IndexWorker) → IsCommitted v w → w.wants_memory ≡ false → last_at w ≡ whole_at (place_in v)
committed_is v w is calm =
    let number : w.writer.number ≡ last_number v.writer.charter = is.done calm ∙ ap last_number is.charter in
    λ i. (
      is.shard i,
      record {
        schema = is.schema i;
        number = number i;
        blocks = blocks_at (is.charter i) (number i);
      },
    )

-- ---- worker by worker

module _ (order : List ℕ) (asked : List (Result Request RequestFault)) where
  abbrev pub Works : List Worker → List Worker → Type 0
  Works [] [] = Unit {0}
  Works (v ∷ vs) (w ∷ ws) = Worked order asked v w × Works vs ws
  Works vs ws = ⊥

  pub all_works : (vs ws : List Worker) → AllWorked order asked vs ws → Works vs ws
  all_works [] [] are = tt
  all_works [] (w ∷ ws) are = let count = are.count in absurd (omega arith)
  all_works (v ∷ vs) [] are = let count = are.count in absurd (omega arith)
  all_works (v ∷ vs) (w ∷ ws) are =
      let count = are.count in (are.each 0 v (omega arith), all_works vs ws (record { count = omega (arith, count); each = λ k d below. are.each (suc k) d (omega (arith, below)) }))

  pub last_are : (vs ws : List Worker) → Works vs ws → All IsCalm ws → map last_at (indexes_in ws) ≡ map whole_at (map place_in (indexes_in vs))
  last_are [] [] are calm = refl
  last_are [] (w ∷ ws) are calm = absurd are
  last_are (v ∷ vs) [] are calm = absurd are
  last_are (Index v ∷ vs) (Index w ∷ ws) are calm = λ i. committed_is v w are.0 (All-head IsCalm (Index w) ws calm) i ∷ last_are vs ws are.1 (All-tail IsCalm (Index w) ws calm) i
  last_are (Index v ∷ vs) (Session w ∷ ws) are calm = absurd are.0
  last_are (Session v ∷ vs) (Index w ∷ ws) are calm = absurd are.0
  last_are (Session v ∷ vs) (Session w ∷ ws) are calm = last_are vs ws are.1 (All-tail IsCalm (Session w) ws calm)

  -- ---- lines

  -- the worker has lines for all that the session asks
  pub record HasLines (s : Seat) (w : SessionWorker) : Type 0 where
    pub session : w.session ≡ s.session
    pub lines : AreSessionLines replied (charters_of s.readers) (most_of s.readers) s.own (least_of s.readers) (map asked_view (asked_of s.session order asked)) (line_views w.lines.items)

  abbrev pub AllHaveLines : List Seat → List SessionWorker → Type 0
  AllHaveLines [] [] = Unit {0}
  AllHaveLines (s ∷ ss) (w ∷ ws) = HasLines s w × AllHaveLines ss ws
  AllHaveLines ss ws = ⊥

  pub all_have_lines : (vs ws : List Worker) → Works vs ws → All IsCalm ws → AllHaveLines (map seat_in (sessions_in vs)) (sessions_in ws)
  all_have_lines [] [] are calm = tt
  all_have_lines [] (w ∷ ws) are calm = absurd are
  all_have_lines (v ∷ vs) [] are calm = absurd are
  all_have_lines (Index v ∷ vs) (Index w ∷ ws) are calm = all_have_lines vs ws are.1 (All-tail IsCalm (Index w) ws calm)
  all_have_lines (Index v ∷ vs) (Session w ∷ ws) are calm = absurd are.0
  all_have_lines (Session v ∷ vs) (Index w ∷ ws) are calm = absurd are.0
  all_have_lines (Session v ∷ vs) (Session w ∷ ws) are calm =
      (record { session = are.0.session; lines = are.0.lines (All-head IsCalm (Session w) ws calm) }, all_have_lines vs ws are.1 (All-tail IsCalm (Session w) ws calm))

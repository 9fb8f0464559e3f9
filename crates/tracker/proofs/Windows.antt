-- The contract of a window, for a tracker of which all holds that always does.
use Rattle.std.proofs.Common.{◌≡◌, ℕ, List, ℤ, None, Ok, Err, Option, sym, refl, ◌∙◌, subst, arith}
use Rattle.frame.specs.declared.refusal.Reason.TheVariants.{TurnTableShort}
use Rattle.frame.specs.Frames.{framed}
use Rattle.meaning.specs.Lines.{ranked}
use Rattle.search.specs.Views.{total_of}
use Rattle.sitting.specs.Rules.{refuse, fault}
use Rattle.sitting.specs.Calls.{Window}
use Rattle.sitting.proofs.Checks.{Clear, clear}
use Rattle.tracker.specs.declared.asking.Answered.{Answered}
use Rattle.tracker.specs.declared.standing.Standing.{Standing}
use Rattle.tracker.specs.declared.tracker.Tracker.{Tracker}
use Rattle.tracker.specs.Asking.{Ready, Finds}
use Rattle.tracker.specs.States.{grant_of, state}
use Rattle.tracker.proofs.Granting.{window_granted, window_short, not_written}
use Rattle.tracker.proofs.Keeping.{Sound, Keeps, keeps, ready, moved_to}
use Rattle.tracker.proofs.Ordering.{all_shown}

pub sound_of : {K : Type 0} (t : Tracker K) → Sound t.standing t.table.ends.now
sound_of t = record { kept = t.kept; shown = t.shown; rowed = t.rowed; room = t.room; past = t.past; within = t.within; rising = t.rising; passed = t.passed; behind = t.behind }

-- a question without a fault
module _ {K : Type 0} (rank : K → ℤ) (s : Standing) (table : List ℕ) (k : Sound s table) (first : ℕ) (xs : List (Option K)) (line : ℕ) (none : fault s.options (framed s.frame) (grant_of s.last) s.filed first (ranked rank xs) line ≡ None) where
  clears : Clear s.options (framed s.frame) (grant_of s.last) s.filed first (ranked rank xs) line
  clears = clear s.options (framed s.frame) (grant_of s.last) s.filed first (ranked rank xs) line none

  pub is_ready : Ready table s.live s.at first (total_of first xs) line
  is_ready =
      let q = clears in
      let n = all_shown rank first xs in
      ready s table first (total_of first xs) line k q.from (omega (arith, q.grown)) (omega (arith, q.inside)) q.onward

  pub is_kept : (total : ℕ) → total ≡ total_of first xs → (a : Answered) (new : List ℕ) → Finds (framed s.frame).units (state s table) first (ranked rank xs) line (Ok a) new → Keeps s table line total a new
  is_kept total is a new p =
      let q = clears in
      let n = all_shown rank first xs in
      keeps s table k line total (omega (arith, q.grown)) (omega (arith, q.inside)) q.onward rank first xs q.from is (framed s.frame).units refl a new p

  pub is_granted : (total : ℕ) → total ≡ total_of first xs → (a : Answered) (new : List ℕ) → Finds (framed s.frame).units (state s table) first (ranked rank xs) line (Ok a) new → Window (state s table) first (ranked rank xs) line (Ok (a.start, a.end)) (state (moved_to s line total a) new)
  is_granted total is a new p =
      let h = is_kept total is a new p in
      window_granted s.options (framed s.frame).units (framed s.frame).start (framed s.frame).end (grant_of s.last) s.filed s.live table first (ranked rank xs) line none a new total (is ∙ all_shown rank first xs) h.low h.high h.rest p

  pub is_short : (n : ℕ) (new : List ℕ) → Finds (framed s.frame).units (state s table) first (ranked rank xs) line (Err n) new → Window (state s table) first (ranked rank xs) line (Err (refuse TurnTableShort n)) (state s new)
  is_short n new p = window_short s.options (framed s.frame).units (framed s.frame).start (framed s.frame).end (grant_of s.last) s.filed s.live table first (ranked rank xs) line none n new p

  pub still_sound : (n : ℕ) (new : List ℕ) → Finds (framed s.frame).units (state s table) first (ranked rank xs) line (Err n) new → Sound s new
  still_sound n new p = subst (Sound s) (sym (not_written (framed s.frame).units (state s table) first (ranked rank xs) line n new p).2) k

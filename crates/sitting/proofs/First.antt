-- The first question of a fresh tracker.
use Rattle.std.proofs.Common.{◌≡◌, ℕ, List, length, Some, None, Result, sym, ap, ◌∙◌, subst, ⊎_elim, arith}
use Rattle.std.proofs.lemmas.List.{take_all}
use Rattle.frame.specs.declared.refusal.Refusal.{Refusal}
use Rattle.meaning.specs.Lines.{Line}
use Rattle.sitting.specs.State.{State}
use Rattle.sitting.specs.Rules.{fault, short, needed, granted, or_else, answered, settled, moved_on}
use Rattle.sitting.specs.Tracks.{Stretch, at_first}
use Rattle.sitting.specs.Calls.{Window, FirstWindow}
use Rattle.sitting.proofs.Checks.{cases_option, clear}

-- a view from line 0 on is a stretch of its own lines
own : (xs : List Line) → Stretch xs 0 xs
own xs = record { within = omega arith; are = sym (take_all (length xs) xs (omega arith)) }

pub first_window : (s : State) (first : ℕ) (xs : List Line) (line : ℕ) (r : Result (ℕ × ℕ) Refusal) (t : State) → Window s first xs line r t → FirstWindow s first xs line r t
first_window s first xs line r t w h =
    let d = fault s.options s.frame s.last s.filed first xs line in
    let n = short s.frame.units (length s.table) (needed xs s first xs line) in
    let g = granted xs s first xs line in
    ⊎_elim
    (λ (e : (x : Refusal) × (d ≡ Some x)).
    let p = w.refused e.0 e.1 in
    (p.0 ∙ sym (ap (λ x. answered (or_else x n) g) e.1), p.1 ∙ sym (ap (λ x. settled (or_else x n) s (moved_on xs s first xs line)) e.1)))
    (λ (e : d ≡ None).
    let z : 0 ≡ first = sym ((clear s.options s.frame s.last s.filed first xs line e).from ∙ h.filed) in
    let P : ℕ → Type 0 = λ f. Stretch xs f xs in
    w.exact xs (at_first h) (subst P z (own xs)))
    (cases_option d)

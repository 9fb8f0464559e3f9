-- A walk over a list of entries, as the count of those in front that pass.
use Rattle.std.proofs.Common.{◌≡◌, ℕ, zero, suc, ◌+◌, ◌-◌, ◌<◌, ◌≤◌, Bool, true, false, cond, leb, List, length, get_or, take, drop, sym, ap, ◌∙◌, subst, ⊎_elim, arith}
use Rattle.std.specs.List.{prefix_len}
use Rattle.std.proofs.lemmas.Bool.{cases_Bool}
use Rattle.std.proofs.lemmas.List.{take_all}
use Rattle.std.proofs.lemmas.List.Sums.{prefix_len-drop_yes, prefix_len-drop_no, prefix_len-drop_all}
use Rattle.meaning.specs.Counts.{walk}
use Rattle.tracker.specs.Walks.{Rise}
use Rattle.tracker.specs.Ends.{entry_of}
use Rattle.tracker.proofs.Holding.{walk_entry}

pub walk_list : (p : ℕ → Bool) (es : List ℕ) (m a : ℕ) → length es - a ≡ m → a + prefix_len p (drop a es) ≡ walk (λ k. p (get_or es k 0)) a m
walk_list p es zero a e = omega (arith, prefix_len-drop_all p es a (omega arith))
walk_list p es (suc m) a e =
    ⊎_elim
    (λ (t : p (get_or es a 0) ≡ true).
    let on : a + prefix_len p (drop a es) ≡ a + 1 + prefix_len p (drop (a + 1) es) = omega (arith, prefix_len-drop_yes p es a 0 (omega arith) t) in
    on ∙ walk_list p es m (a + 1) (omega arith) ∙ sym (ap (λ b. cond b (walk (λ k. p (get_or es k 0)) (a + 1) m) a) t))
    (λ (t : p (get_or es a 0) ≡ false).
    let off : a + prefix_len p (drop a es) ≡ a = omega (arith, prefix_len-drop_no p es a 0 (omega arith) t) in
    off ∙ sym (ap (λ b. cond b (walk (λ k. p (get_or es k 0)) (a + 1) m) a) t))
    (cases_Bool (p (get_or es a 0)))

-- over entries that rise, from one that no entry past the line stands before, it ends at the line's
pub walk_entries : (first at line : ℕ) (es : List ℕ) → Rise first es → at ≤ length es → ((k : ℕ) → k < at → get_or es k 0 ≤ line) → walk (λ k. leb (get_or es k 0) line) at (length es - at) ≡ entry_of es line
walk_entries first at line es rises behind passed =
    let whole : take (length es) es ≡ es = take_all (length es) es (omega arith) in
    walk_entry es first (length es) at line (omega arith) (subst (Rise first) (sym whole) rises) behind passed ∙ ap (λ ys. entry_of ys line) whole

use Rattle.std.proofs.Common.{ℕ, ◌<◌, List, [], ◌∷◌, ◌++◌, map, get_or, take, string_bytes, sym, ap, ◌∙◌, arith}
use Rattle.std.proofs.lemmas.List.{take_more, take_all, map_push}
use Rattle.std.proofs.lemmas.Bool.Decides.{nat_tests}
use Rattle.readback.specs.Lines.{printed}
use Rattle.readback.proofs.answer.shown_word.Goals as goal

visible : (b : ℕ) → printed b < 128
visible b = grind (arith, nat_tests)

pub loop-b-preserved : goal.loop-b-preserved
loop-b-preserved c =
    let p = c.in_ok-push.ensures in
    let a = visible (get_or c.args.word.now c.loop-b.b-index 0) in
    let small : c.printable.result < 128 = omega (arith, c.printable.ensures) in
    let one = p.ascii small in
    let t = take_more c.args.word.now c.loop-b.b-index 0 c.loop-b-test.true in
    let m = map_push printed (take c.loop-b.b-index c.args.word.now) (get_or c.args.word.now c.loop-b.b-index 0) in
    p.bytes ∙ ap (λ (xs : List ℕ). string_bytes c.loop-b.text ++ xs) one
    ∙ ap (λ (xs : List ℕ). xs ++ c.printable.result ∷ []) c.loop-b.invariant
    ∙ ap (λ (b : ℕ). map printed (take c.loop-b.b-index c.args.word.now) ++ b ∷ []) c.printable.ensures
    ∙ sym m ∙ ap (map printed) (sym t)

pub returns : goal.returns
returns c = c.loop-b.invariant ∙ ap (map printed) (take_all _ _ c.loop-b-test.false)

use Rattle.std.proofs.Common.{◌≡◌, ℕ, ◌+◌, ◌<◌, List, [], ◌∷◌, ◌++◌, length, get_or, take, codes, decimal, sym, ap, ◌∙◌, append_assoc, append-nil, rules}
use Rattle.std.proofs.lemmas.Grind.{put_two}
use Rattle.std.proofs.lemmas.List.{take_more}
use Rattle.rulescript.specs.Answers.{spaced}
use Rattle.rulescript.proofs.answer.write_numbers.Goals as goal

spaced_push : (ns : List ℕ) (n : ℕ) → spaced (ns ++ (n ∷ [])) ≡ spaced ns ++ (codes " " ++ decimal n)
spaced_push [] n = ap (λ l. codes " " ++ l) (append-nil (decimal n))
spaced_push (m ∷ ns) n = ap (λ l. codes " " ++ l) (ap (λ l. decimal m ++ l) (spaced_push ns n) ∙ sym (append_assoc (decimal m) (spaced ns) (codes " " ++ decimal n)))

spaced_more : (ns : List ℕ) (i : ℕ) → i < length ns → spaced (take i ns) ++ (codes " " ++ decimal (get_or ns i 0)) ≡ spaced (take (i + 1) ns)
spaced_more ns i here = sym (ap spaced (take_more ns i 0 here) ∙ spaced_push (take i ns) (get_or ns i 0))

pub loop-number-preserved : goal.loop-number-preserved
loop-number-preserved g c plain =
    let old = c.loop-number.invariant plain in
    put_two g.W.Write.write_str_gives c.args.f.now c.loop-number.f c.write.new.self _ _ _ old (c.in_ok-write.ensures.writes old.plain (search rules))
    (spaced_more c.args.numbers.now c.loop-number.number-index c.loop-number-test.true)

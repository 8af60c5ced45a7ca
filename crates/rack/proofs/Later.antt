-- Two lists that are the same behind a place.
use Rattle.std.proofs.Common.{◌≡◌, ℕ, ◌+◌, ◌-◌, ◌≤◌, List, drop, sym, ap, ◌∙◌, arith}
use Rattle.std.proofs.lemmas.List.{drop-drop}

-- what is the same from i on is so from any later place on
pub same_later : {X : Type 0} (i n : ℕ) (xs ys : List X) → i ≤ n → drop i ys ≡ drop i xs → drop n ys ≡ drop n xs
same_later i n xs ys le same =
    let past : i + (n - i) ≡ n = omega arith in
    ap (λ m. drop m ys) (sym past) ∙ sym (drop-drop (n - i) i ys) ∙ ap (drop (n - i)) same ∙ drop-drop (n - i) i xs ∙ ap (λ m. drop m xs) past

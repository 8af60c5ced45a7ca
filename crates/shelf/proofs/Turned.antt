-- What a turn of a part of a list by one leaves.
use Rattle.std.proofs.Common.{◌≡◌, ℕ, suc, ◌+◌, ◌-◌, ◌<◌, ◌≤◌, List, [], ◌∷◌, ◌++◌, length, take, drop, set, sym, ap, ◌∙◌, add-one, arith}
use borrow.Rule.Slice.PartMut.{put_mid}
use Rattle.std.proofs.lemmas.List.{take_more_set, drop-take, drop-append-le, take_at, drop_at, take-set-le, take-take, drop-set-lt, drop-drop, length-set, length-take-le, length-take, length-drop, length-append, append_assoc}
use Rattle.std.proofs.lemmas.Slice.{take-put_mid, drop-put_mid}
use Rattle.std.specs.List.{insert, remove}

regroup : {X : Type 0} (u a b c : List X) → u ++ ((a ++ b) ++ c) ≡ (u ++ a) ++ (b ++ c)
regroup u a b c = simp append_assoc

module _ {X : Type 0} (xs : List X) where
  -- the part from p to n, as it is read
  part_is : (p n : ℕ) → p ≤ n → take (n - p) (drop p xs) ≡ drop p (take n xs)
  part_is p n le =
      let e : p + (n - p) ≡ n = omega arith in
      sym (drop-take p (n - p) xs) ∙ ap (λ (m : ℕ). drop p (take m xs)) e

module _ {X : Type 0} (xs : List X) (e : X) (n p : ℕ) (lt : n < length xs) (le : p ≤ n) (ys : List X) where
  abbrev zs : List X
  zs = set xs n e

  abbrev part : List X
  part = take (n + 1 - p) (drop p zs)

  abbrev q : List X
  q = drop p (take n xs)

  q_long : length q ≡ n - p
  q_long = length-drop p (take n xs) ∙ ap (λ (m : ℕ). m - p) (length-take-le n xs (omega arith))

  part_ends : part ≡ q ++ e ∷ []
  part_ends =
      let long : length (take n xs) ≡ n = length-take-le n xs (omega arith) in
      part_is zs p (n + 1) (omega arith) ∙ ap (drop p) (take_more_set xs n e lt) ∙ drop-append-le p (take n xs) (e ∷ []) (omega arith)

  part_long : length part ≡ n - p + 1
  part_long = ap length part_ends ∙ length-append q (e ∷ []) ∙ ap (λ (m : ℕ). m + 1) q_long

  module _ (turned : ys ≡ drop (length part - 1) part ++ take (length part - 1) part) where
    ys_is : ys ≡ e ∷ q
    ys_is =
        let cut : length q ≡ length part - 1 = omega (arith, part_long, q_long) in
        turned
        ∙ ap (λ (m : List X). drop (length part - 1) m ++ take (length part - 1) m) part_ends
        ∙ ap (λ (m : List X). m ++ take (length part - 1) (q ++ e ∷ [])) (drop_at q (e ∷ []) (length part - 1) cut)
        ∙ ap (λ (m : List X). (e ∷ []) ++ m) (take_at q (e ∷ []) (length part - 1) cut)

    ys_long : length ys ≡ n + 1 - p
    ys_long = omega (arith, ap length ys_is, q_long)

    pub insert_front : take (n + 1) (put_mid p (n + 1 - p) zs ys) ≡ insert (take n xs) p e
    insert_front =
        take-put_mid p (n + 1 - p) zs ys (n + 1) (omega (arith, ys_long)) (omega (arith, length-set xs n e))
        ∙ ap (λ (m : List X). take p zs ++ m) ys_is
        ∙ ap (λ (m : List X). m ++ e ∷ q) (take-set-le p xs n e le ∙ sym (take-take p n xs le))

    pub insert_rest : drop (n + 1) (put_mid p (n + 1 - p) zs ys) ≡ drop (n + 1) xs
    insert_rest =
        drop-put_mid p (n + 1 - p) zs ys (n + 1) (omega arith) (omega (arith, length-set xs n e)) ys_long
        ∙ drop-set-lt (n + 1) xs n e (omega arith)

module _ {X : Type 0} (xs : List X) (n p : ℕ) (le : n ≤ length xs) (lt : p < n) (ys : List X) where
  abbrev piece : List X
  piece = take (n - p) (drop p xs)

  piece_long : length piece ≡ n - p
  piece_long = ap length (part_is xs p n (omega arith)) ∙ length-drop p (take n xs) ∙ ap (λ (m : ℕ). m - p) (length-take-le n xs le)

  module _ (turned : ys ≡ drop 1 piece ++ take 1 piece) where
    turned_long : length ys ≡ n - p
    turned_long = ap length turned ∙ length-append (drop 1 piece) (take 1 piece) ∙ omega (arith, length-drop 1 piece, length-take 1 piece, piece_long)

    pub remove_rest : (m : ℕ) → n ≤ m → drop m (put_mid p (n - p) xs ys) ≡ drop m xs
    remove_rest m past = drop-put_mid p (n - p) xs ys m (omega arith) (omega arith) turned_long

    pub remove_front : take (n - 1) (put_mid p (n - p) xs ys) ≡ remove (take n xs) p
    remove_front =
        let a = drop 1 piece in
        let long : length (take p xs ++ a) ≡ n - 1 =
        length-append (take p xs) a ∙ omega (arith, length-drop 1 piece, piece_long, length-take-le p xs (omega arith)) in
        let last : a ≡ drop (suc p) (take n xs) =
        ap (drop 1) (part_is xs p n (omega arith)) ∙ drop-drop 1 p (take n xs) ∙ ap (λ (m : ℕ). drop m (take n xs)) (add-one p) in
        ap (λ (m : List X). take (n - 1) (take p xs ++ (m ++ drop (n - p) (drop p xs)))) turned
        ∙ ap (take (n - 1)) (regroup (take p xs) a (take 1 piece) (drop (n - p) (drop p xs)))
        ∙ take_at (take p xs ++ a) (take 1 piece ++ drop (n - p) (drop p xs)) (n - 1) long
        ∙ ap (λ (m : List X). m ++ a) (sym (take-take p n xs (omega arith)))
        ∙ ap (λ (m : List X). take p (take n xs) ++ m) last

-- The order of a shelf's list, and what keeps it.
use Rattle.std.proofs.Common.{◌≡◌, ℕ, zero, suc, Bool, true, false, cond, List, [], ◌∷◌, ◌++◌, take, drop, Some, None, Option, Ordering, Less, Equal, Greater, sym, refl, ap, ◌∙◌, ⊎_elim, arith}
use Rattle.std.proofs.ByRecursion.{All-take, All-weaker}
use Rattle.std.proofs.lemmas.List.{append-nil}
use Rattle.std.proofs.lemmas.Bool.{cond_both, cond-true, cond-false, cases_Bool, true≢false, both_ways}
use Rattle.std.specs.List.{insert, AllByRecursion}
use Rattle.std.specs.Cmp.{IsTotalOrder, alike_right}
use Rattle.std.specs.Ordering.{is_eq, is_gt, ordering_reverse}
use Rattle.shelf.specs.declared.entries.Entry.{Entry}
use Rattle.shelf.specs.Places.{above, place_of, first_above, shelved, Ascending}
use Rattle.shelf.specs.Laws.{Arrived, InTurn, Reach, Next, AllAbove, of_key}
use Rattle.shelf.specs.Searches.{without_that}
use Rattle.shelf.proofs.Firsts.{all_without, kept_none, at_later, at_once}
use Rattle.shelf.proofs.Steps.{place_both}

-- ---- any comparison

module _ {K : Type 0} (cmp : K → K → Ordering) where
  -- what holds of the new entry and of all others holds of all
  pub all_shelved : (P : Entry K → Type 0) (e : Entry K) (xs : List (Entry K)) → P e → AllByRecursion P xs → AllByRecursion P (shelved cmp e xs)
  all_shelved P e [] p h = (p, tt)
  all_shelved P e (x ∷ xs) p h =
      cond_both (above cmp e.key x) (e ∷ x ∷ xs) (x ∷ shelved cmp e xs) (AllByRecursion P)
      (λ _. (p, h))
      (λ _. (h.0, all_shelved P e xs p h.1))

  -- the entry goes to the place of the first that is above it
  pub inserted_shelved : (e : Entry K) (xs : List (Entry K)) → insert xs (place_of cmp e.key xs) e ≡ shelved cmp e xs
  inserted_shelved e [] = refl
  inserted_shelved e (x ∷ xs) =
      place_both (above cmp e.key) x xs (λ n. insert (x ∷ xs) n e ≡ shelved cmp e (x ∷ xs))
      (λ t. sym (cond-true (above cmp e.key x) (e ∷ x ∷ xs) (x ∷ shelved cmp e xs) t))
      (λ t. ap (λ (l : List (Entry K)). x ∷ l) (inserted_shelved e xs) ∙ sym (cond-false (above cmp e.key x) (e ∷ x ∷ xs) (x ∷ shelved cmp e xs) t))

  -- the order stays where the first that passes a test goes
  pub ascending_without : (test : Entry K → Bool) (xs : List (Entry K)) → Ascending cmp xs → Ascending cmp (without_that test xs)
  ascending_without test [] up = tt
  ascending_without test (x ∷ xs) up =
      cond_both (test x) xs (x ∷ without_that test xs) (Ascending cmp)
      (λ _. up.1)
      (λ _. (all_without test (λ y. above cmp y.key x ≡ false) xs up.0, ascending_without test xs up.1))

  -- and so does the order of a part
  pub ascending_take :
      (n : ℕ) (xs : List (Entry K)) → Ascending cmp xs → Ascending cmp (take n xs)
  ascending_take zero xs up = tt
  ascending_take (suc n) [] up = tt
  ascending_take (suc n) (x ∷ xs) up =
      (All-take (λ y. above cmp y.key x ≡ false) n xs up.0, ascending_take n xs up.1)

  -- also of the rest
  pub ascending_drop :
      (n : ℕ) (xs : List (Entry K)) → Ascending cmp xs → Ascending cmp (drop n xs)
  ascending_drop zero xs up = up
  ascending_drop (suc n) [] up = tt
  ascending_drop (suc n) (x ∷ xs) up = ascending_drop n xs up.1

-- ---- a total order

after : (p q : Ordering) → p ≡ ordering_reverse q → is_gt q ≡ true → is_gt p ≡ false
after p Less e h = absurd (true≢false (sym h))
after p Equal e h = absurd (true≢false (sym h))
after p Greater e h = ap is_gt e

not_level : (p : Ordering) → is_gt p ≡ true → is_eq p ≡ false
not_level Less h = refl
not_level Equal h = absurd (true≢false (sym h))
not_level Greater h = refl

is_level : (p : Ordering) → is_eq p ≡ true → p ≡ Equal
is_level Less h = absurd (true≢false (sym h))
is_level Equal h = refl
is_level Greater h = absurd (true≢false (sym h))

module _ {X : Type 0} where
  front_or_back : (b : Bool) (e : X) (ys : List X) → (b ≡ true → ys ≡ []) → cond b (e ∷ ys) ys ≡ ys ++ cond b (e ∷ []) []
  front_or_back true e ys h = ap (λ (l : List X). e ∷ l) (h refl) ∙ ap (λ (l : List X). l ++ e ∷ []) (sym (h refl))
  front_or_back false e ys h = sym (append-nil ys)

  one_more : (b : Bool) (x : X) (zs ys us : List X) → zs ≡ ys ++ us → cond b (x ∷ zs) zs ≡ cond b (x ∷ ys) ys ++ us
  one_more true x zs ys us h = ap (λ (l : List X). x ∷ l) h
  one_more false x zs ys us h = h

module _ {K : Type 0} {R : K → K → Ordering} (o : IsTotalOrder R) where
  -- of two keys at most one is above the other
  pub above_one_way : (x y : K) → is_gt (R x y) ≡ true → is_gt (R y x) ≡ false
  above_one_way x y h = after (R y x) (R x y) (o.antisymm y x) h

  chain : (x y z : K) (p q : Ordering) → R x y ≡ p → R y z ≡ q → is_gt p ≡ false → is_gt q ≡ false → is_gt (R x z) ≡ false
  chain x y z Less Less e f h k = ap is_gt (o.trans x y z e f)
  chain x y z Less Equal e f h k = ap is_gt (sym (alike_right o y z x f) ∙ e)
  chain x y z Less Greater e f h k = absurd (true≢false k)
  chain x y z Equal q e f h k = ap is_gt (o.congr x y z e ∙ f) ∙ k
  chain x y z Greater q e f h k = absurd (true≢false h)

  -- not above, by way of a third
  pub not_above_chain : (x y z : K) → is_gt (R x y) ≡ false → is_gt (R y z) ≡ false → is_gt (R x z) ≡ false
  not_above_chain x y z = chain x y z (R x y) (R y z) refl refl

  pub not_above_itself : (x : K) → is_gt (R x x) ≡ false
  not_above_itself x =
      ⊎_elim (λ e. absurd (both_ways (is_gt (R x x)) (above_one_way x x e) e)) (λ e. e) (cases_Bool (is_gt (R x x)))

  -- what is not below something above the key is above the key
  pub above_further : (k x y : K) → is_gt (R x k) ≡ true → is_gt (R x y) ≡ false → is_gt (R y k) ≡ true
  above_further k x y up le =
      ⊎_elim (λ e. e) (λ e. absurd (both_ways (is_gt (R x k)) (not_above_chain x y k le e) up)) (cases_Bool (is_gt (R y k)))

  -- behind an entry above the key, all are above it
  pub all_above : (k : K) (x : Entry K) (xs : List (Entry K)) → above R k x ≡ true → Ascending R (x ∷ xs) → AllAbove R k (x ∷ xs)
  all_above k x xs e up = (e, All-weaker (λ y. above R y.key x ≡ false) (λ y. above R k y ≡ true) (λ y le. above_further k x.key y.key e le) xs up.0)

  -- a shelf stays in order as an entry comes
  pub ascending_shelved : (e : Entry K) (xs : List (Entry K)) → Ascending R xs → Ascending R (shelved R e xs)
  ascending_shelved e [] up = (tt, tt)
  ascending_shelved e (x ∷ xs) up =
      cond_both (above R e.key x) (e ∷ x ∷ xs) (x ∷ shelved R e xs) (Ascending R)
      (λ t.
      let le = above_one_way x.key e.key t in
      ((le, All-weaker (λ y. above R y.key x ≡ false) (λ y. above R y.key e ≡ false) (λ y. not_above_chain e.key x.key y.key le) xs up.0), up))
      (λ t. (all_shelved R (λ y. above R y.key x ≡ false) e xs t up.0, ascending_shelved e xs up.1))

  -- where it stands then
  pub arrived : (e : Entry K) (xs : List (Entry K)) → Ascending R xs → Arrived R e xs (shelved R e xs)
  arrived e [] up = record { front = []; back = []; before = refl; after = refl; not_above = tt; all_above = tt }
  arrived e (x ∷ xs) up =
      cond_both (above R e.key x) (e ∷ x ∷ xs) (x ∷ shelved R e xs) (Arrived R e (x ∷ xs))
      (λ t. record { front = []; back = x ∷ xs; before = refl; after = refl; not_above = tt; all_above = all_above e.key x xs t up })
      (λ t.
      let r = arrived e xs up.1 in
      record {
        front = x ∷ r.front;
        back = r.back;
        before = ap (λ (l : List (Entry K)). x ∷ l) r.before;
        after = ap (λ (l : List (Entry K)). x ∷ l) r.after;
        not_above = (t, r.not_above);
        all_above = r.all_above;
      })

  -- none of its equals stands behind it
  none_level : (k : K) (e : Entry K) (xs : List (Entry K)) → is_eq (R e.key k) ≡ true → AllAbove R e.key xs → of_key R k xs ≡ []
  none_level k e xs same high =
      kept_none (λ x. is_eq (R x.key k)) xs (All-weaker (λ x. above R e.key x ≡ true) (λ x. is_eq (R x.key k) ≡ false) (λ x up. not_level (R x.key k) (sym (ap is_gt (alike_right o e.key k x.key (is_level (R e.key k) same))) ∙ up)) xs high)

  pub in_turn : (e : Entry K) (xs : List (Entry K)) → Ascending R xs → InTurn R e xs (shelved R e xs)
  in_turn e [] up k = refl
  in_turn e (x ∷ xs) up k =
      let level : Entry K → Bool = λ y. is_eq (R y.key k) in
      let of : List (Entry K) → List (Entry K) = of_key R k in
      cond_both (above R e.key x) (e ∷ x ∷ xs) (x ∷ shelved R e xs) (λ l. of l ≡ of (x ∷ xs) ++ of (e ∷ []))
      (λ t. front_or_back (level e) e (of (x ∷ xs)) (λ same. none_level k e (x ∷ xs) same (all_above e.key x xs t up)))
      (λ t. one_more (level x) x (of (shelved R e xs)) (of xs) (of (e ∷ [])) (in_turn e xs up.1 k))

  -- how far a key reaches
  pub reach : (k : K) (xs : List (Entry K)) → Ascending R xs → Reach R k xs (place_of R k xs)
  reach k [] up = record { within = omega arith; reached = tt; beyond = tt }
  reach k (x ∷ xs) up =
      place_both (above R k) x xs (Reach R k (x ∷ xs))
      (λ t. record { within = omega arith; reached = tt; beyond = all_above k x xs t up })
      (λ t.
      let r = reach k xs up.1 in
      record { within = omega (arith, r.within); reached = (t, r.reached); beyond = r.beyond })

  next_further : (k : K) (x : Entry K) (xs : List (Entry K)) (r : Option (Entry K)) → above R k x ≡ false → Next R k xs r → Next R k (x ∷ xs) r
  next_further k x xs None t h = (t, h)
  next_further k x xs (Some y) t h = (at_later (above R k) x t h.0, (λ e. absurd (both_ways (above R k x) t e), h.1))

  -- the first above a key is the lowest
  pub next : (k : K) (xs : List (Entry K)) → Ascending R xs → Next R k xs (first_above R k xs)
  next k [] up = tt
  next k (x ∷ xs) up =
      cond_both (above R k x) (Some x) (first_above R k xs) (Next R k (x ∷ xs))
      (λ t. (
        at_once (above R k) x xs t,
        (
          λ _. not_above_itself x.key,
          All-weaker (λ y. above R y.key x ≡ false) (λ y. above R k y ≡ true → above R y.key x ≡ false) (λ y le _. le) xs up.0,
        ),
      ))
      (λ t. next_further k x xs (first_above R k xs) t (next k xs up.1))

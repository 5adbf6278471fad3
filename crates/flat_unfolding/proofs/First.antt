-- The rule that is told.
use Rattle.std.proofs.Common.{◌≡◌, ℕ, zero, suc, ◌<◌, ◌≤◌, Bool, true, false, cond, nat_lt, List, [], ◌∷◌, length, All, Contains, slice_index_or, refl, arith, ltb-true, ltb-false}
use Rattle.std.proofs.lemmas.List.Elements.{All-head, All-cons, All-nil, All-tail}
use Rattle.flat_unfolding.specs.Outcome.{Broken, Order, first_of_all}

module _ (order : Order) where
  -- not behind x
  abbrev UpTo : Broken → Broken → Type 0
  UpTo x c = order x.number ≤ order c.number

  first_of_two : (b c : Broken) (cs : List Broken) (t : Bool) → nat_lt (order c.number) (order b.number) ≡ t
      → All (UpTo (first_of_all order b cs)) (b ∷ cs) → All (UpTo (first_of_all order c cs)) (c ∷ cs)
      → All (UpTo (first_of_all order (cond t c b) cs)) (b ∷ c ∷ cs)
  first_of_two b c cs true e h k =
      let x = first_of_all order c cs in let l = All-head (UpTo x) c cs k in let m = ltb-true _ _ e in
      All-cons (UpTo x) b (c ∷ cs) (omega arith) k
  first_of_two b c cs false e h k =
      let x = first_of_all order b cs in let l = All-head (UpTo x) b cs h in let m = ltb-false _ _ e in
      All-cons (UpTo x) b (c ∷ cs) l (All-cons (UpTo x) c cs (omega arith) (All-tail (UpTo x) b cs h))

  pub first_is_told : (b : Broken) (bs : List Broken) → All (UpTo (first_of_all order b bs)) (b ∷ bs)
  first_is_told b [] = All-cons (UpTo b) b [] (let h : order b.number ≤ order b.number = omega arith in h) (All-nil (UpTo b))
  first_is_told b (c ∷ cs) = first_of_two b c cs (nat_lt (order c.number) (order b.number)) refl (first_is_told b cs) (first_is_told c cs)

  behind_one : (b c x : Broken) (cs : List Broken) (k : ℕ) → k < length (b ∷ cs) → slice_index_or (b ∷ cs) k x ≡ x → Contains (b ∷ c ∷ cs) x
  behind_one b c x cs zero l e = (zero, omega arith, e)
  behind_one b c x cs (suc k) l e = (suc (suc k), omega arith, e)

  one_of_two : (b c : Broken) (cs : List Broken) (t : Bool) → Contains (b ∷ cs) (first_of_all order b cs) → Contains (c ∷ cs) (first_of_all order c cs)
      → Contains (b ∷ c ∷ cs) (first_of_all order (cond t c b) cs)
  one_of_two b c cs true h k = (suc k.0, (let l = k.1 in omega arith), k.2)
  one_of_two b c cs false h k = behind_one b c _ cs h.0 h.1 h.2

  pub one_is_told : (b : Broken) (bs : List Broken) → Contains (b ∷ bs) (first_of_all order b bs)
  one_is_told b [] = (zero, omega arith, refl)
  one_is_told b (c ∷ cs) = one_of_two b c cs (nat_lt (order c.number) (order b.number)) (one_is_told b cs) (one_is_told c cs)

-- Counts over a run: the word that a side's count has is the number of its changes.
use Rattle.std.proofs.Common.{◌≡◌, ℕ, zero, suc, ◌+◌, ◌-◌, ◌*◌, ◌^◌, ◌<◌, ◌≤◌, ◌&&◌, Bool, true, false, cond, Some, List, [], ◌∷◌, map, ◌⊎◌, inl, inr, refl, sym, ap, ap₂, subst, ◌∙◌, arith, pow-suc}
use Rattle.std.specs.Prelude.{⊤}
use Rattle.std.specs.Bool.{beq}
use Rattle.std.specs.List.{AllByRecursion}
use Rattle.std.proofs.lemmas.Bool.{and_parts, false_from_ne_true}
use Rattle.std.proofs.lemmas.Nat.{pow_pos}
use Rattle.cdc_base.specs.declared.bit.Bit.{Bit}
use Rattle.cell_graph.specs.Reading.{Reading}
use Rattle.cell_graph.specs.Tree.{Tree}
use Rattle.cdc_model.specs.declared.scheme.GrayReg.{GrayReg}
use Rattle.cdc_model.specs.Design.{Design, bits_from, word}
use Rattle.cdc_model.specs.Facts.{OnlySettling, AllCalm}
use Rattle.cdc_model.specs.Gray.{increment, IsOwn}
use Rattle.cdc_model.specs.Runs.{State, Trace, Start, Then, now, IsStep, IsFirst}
use Rattle.cdc_model.specs.Schemes.{Trees, Sync, Ring}
use Rattle.cdc_model.specs.Word.{origins}
use Rattle.fifo_terms.specs.Counts.{binary}
use Rattle.fifo_terms.specs.Terms.{all_hold}
use Rattle.fifo_terms.proofs.Binary.{next_binary, binary_tells}
use Rattle.fifo_terms.proofs.Counts.{counts_sound}
use Rattle.fifo_laws.specs.Sides.{Side, side_width, IsSide}
use Rattle.fifo_laws.specs.Order.{agree_on, changes}
use Rattle.fifo_laws.specs.Laws.{AreLists, IsSoundRun}
use Rattle.fifo_laws.proofs.Sides.{own_values, next_values, all_map, all_both, same_map, IsFirm, counts_own, counts_firm}
use Rattle.fifo_laws.proofs.StepSide.{ticked, waited}

-- ---- words

-- what holds of each bit of a word holds of the one at a place
each_bit : (P : Bit → Type 0) (sig i n j k : ℕ) → AllByRecursion P (bits_from sig i n) → k ≡ i + j → j < n → P (record { sig = sig; at = k })
each_bit P sig i zero j k all e l = absurd (omega (arith, l))
each_bit P sig i (suc n) zero k all e l = subst (λ (m : ℕ). P (record { sig = sig; at = m })) (let f : i ≡ k = omega (arith, e) in f) all.0
each_bit P sig i (suc n) (suc j) k all e l = each_bit P sig (suc i) n j k all.1 (omega (arith, e)) (omega (arith, l))

beq_same : (a b : Bool) → beq a b ≡ true → a ≡ b
beq_same true true h = refl
beq_same true false h = cc
beq_same false true h = cc
beq_same false false h = refl

beq_self : (a b : Bool) → a ≡ b → beq a b ≡ true
beq_self true true e = refl
beq_self true false e = cc
beq_self false true e = cc
beq_self false false e = refl

heads : (a b : Bool) (xs ys : List Bool) → a ∷ xs ≡ b ∷ ys → a ≡ b
heads a b xs ys e = cc

tails : (a b : Bool) (xs ys : List Bool) → a ∷ xs ≡ b ∷ ys → xs ≡ ys
tails a b xs ys e = cc

pub agree_same : (bs : List Bit) (r q : Reading) → agree_on bs r q ≡ true → map r bs ≡ map q bs
agree_same [] r q h = refl
agree_same (b ∷ bs) r q h = let p = and_parts (beq (r b) (q b)) (agree_on bs r q) h in ap₂ (λ x xs. x ∷ xs) (beq_same (r b) (q b) p.0) (agree_same bs r q p.1)

pub same_agree : (bs : List Bit) (r q : Reading) → map r bs ≡ map q bs → agree_on bs r q ≡ true
same_agree [] r q e = refl
same_agree (b ∷ bs) r q e = ap₂ (λ u v. u && v) (beq_self (r b) (q b) (heads (r b) (q b) (map r bs) (map q bs) e)) (same_agree bs r q (tails (r b) (q b) (map r bs) (map q bs) e))

pub zero_word : (r : Reading) (sig i w : ℕ) → ((k : ℕ) → k < i + w → r (record { sig = sig; at = k }) ≡ false) → map r (bits_from sig i w) ≡ binary w 0
zero_word r sig i zero h = refl
zero_word r sig i (suc w) h = ap₂ (λ x xs. x ∷ xs) (h i (omega arith)) (zero_word r sig (suc i) w (λ k l. h k (omega (arith, l))))

-- a round is twice the depth, which is 2 at least
pub half_round : (w : ℕ) → 2 ≤ w → (2 ^ w ≡ 2 * 2 ^ (w - 1)) × (2 ≤ 2 ^ (w - 1))
half_round zero l = absurd (omega (arith, l))
half_round (suc zero) l = absurd (omega (arith, l))
half_round (suc (suc v)) l = subst (λ (z : ℕ). (2 ^ suc (suc v) ≡ 2 * 2 ^ z) × (2 ≤ 2 ^ z)) (let e : suc v ≡ suc (suc v) - 1 = omega arith in e)
    ((let p = pow-suc 2 (suc v) in omega (arith, p)), (let p = pow-suc 2 v in let q = pow_pos v in omega (arith, p, q)))

-- the next word is another one
next_differs : (w n : ℕ) → 1 ≤ w → binary w (n + 1) ≡ binary w n → ⊥
next_differs zero n l e = omega (arith, l)
next_differs (suc v) n l e = let p = pow-suc 2 v in let q = pow_pos v in let h : n ≡ n + 1 = binary_tells (suc v) n (n + 1) (sym e) (omega arith) (omega (arith, p, q)) in omega (arith, h)

-- words of numbers that are as far on
pub further : (w a b c : ℕ) → binary w a ≡ binary w b → binary w (a + c) ≡ binary w (b + c)
further w a b zero e = ap (binary w) (let f : a + 0 ≡ a = omega arith in f) ∙ e ∙ ap (binary w) (let f : b ≡ b + 0 = omega arith in f)
further w a b (suc c) e = ap (binary w) (let f : a + suc c ≡ a + c + 1 = omega arith in f) ∙ sym (next_binary w (a + c)) ∙ ap increment (further w a b c e) ∙ next_binary w (b + c)
    ∙ ap (binary w) (let f : b + c + 1 ≡ b + suc c = omega arith in f)

-- What a step does where a side's word is that of a number: nothing, or the next one.
pub data CountStep (d : Design) (s : Side) (edges : ℕ → Bool) (past : Trace) (new : State) (n : ℕ) : Type 0 where
  Stays : agree_on (word d s.reg.count) (now past).values new.values ≡ true → map new.values (word d s.reg.count) ≡ binary (side_width d s) n → CountStep d s edges past new n
  Counts : agree_on (word d s.reg.count) (now past).values new.values ≡ false → map new.values (word d s.reg.count) ≡ binary (side_width d s) (n + 1)
      → all_hold (now past).values s.under ≡ true → edges s.clock ≡ true → CountStep d s edges past new n

-- ---- a side in a step

module _ (d : Design) (tree : ℕ → Tree) (t : Trees) (syncs : List Sync) (grays : List GrayReg) (lists : AreLists d tree t syncs grays) (to : ℕ) (s : Side) (side : IsSide d tree syncs grays to s) where
  reg_wide : 2 ≤ side_width d s
  reg_wide = (lists.are_grays s.reg side.listed).width.0

  module _ (edges : ℕ → Bool) (old new : State) (step : IsStep d edges old new) (only : OnlySettling d syncs old) (calm : AllCalm d syncs edges old new (λ x. ⊤)) where
    takes : edges s.clock ≡ true → map new.values (word d s.reg.count) ≡ map (d.next old.values) (word d s.reg.count)
    takes e = same_map {P = λ b. IsOwn d s.clock [] b × IsFirm d syncs s.clock b} new.values (d.next old.values) (word d s.reg.count)
        (all_both (word d s.reg.count) (counts_own d tree t syncs grays lists to s side) (counts_firm d tree t syncs grays lists to s side) (λ b o f. (o, f)))
        (λ b p. ticked d tree t syncs grays lists edges old new step only calm s.clock b e p.0.register p.0.clock p.1.settled)

    next_is : (v : Bool) → all_hold old.values s.under ≡ v
        → map (d.next old.values) (word d s.reg.count) ≡ cond v (increment (map old.values (word d s.reg.count))) (map old.values (word d s.reg.count))
    next_is v h = next_values d tree lists.next old.values s.reg.count 0 (side_width d s) (all_map (word d s.reg.count) (counts_own d tree t syncs grays lists to s side) (λ b o. o.register))
        ∙ counts_sound old.values s.reg.count (side_width d s) (origins (tree s.reg.count) 0 (side_width d s)) s.under side.counts
        ∙ ap₂ (λ u xs. cond u (increment xs) xs) h (own_values old.values s.reg.count (side_width d s) 0 (side_width d s))

    -- the count stays, or all its terms hold and it counts by one
    count_moves : (map new.values (word d s.reg.count) ≡ map old.values (word d s.reg.count))
        ⊎ ((map new.values (word d s.reg.count) ≡ increment (map old.values (word d s.reg.count))) × (all_hold old.values s.under ≡ true) × (edges s.clock ≡ true))
    count_moves = go (edges s.clock) refl
      where
        choose : edges s.clock ≡ true → (v : Bool) → all_hold old.values s.under ≡ v → (map new.values (word d s.reg.count) ≡ map old.values (word d s.reg.count))
            ⊎ ((map new.values (word d s.reg.count) ≡ increment (map old.values (word d s.reg.count))) × (all_hold old.values s.under ≡ true) × (edges s.clock ≡ true))
        choose e true h = inr (takes e ∙ next_is true h, h, e)
        choose e false h = inl (takes e ∙ next_is false h)

        go : (v : Bool) → edges s.clock ≡ v → (map new.values (word d s.reg.count) ≡ map old.values (word d s.reg.count))
            ⊎ ((map new.values (word d s.reg.count) ≡ increment (map old.values (word d s.reg.count))) × (all_hold old.values s.under ≡ true) × (edges s.clock ≡ true))
        go true e = choose e (all_hold old.values s.under) refl
        go false e = inl (same_map new.values old.values (word d s.reg.count) (counts_own d tree t syncs grays lists to s side)
            (λ b o. waited d tree t syncs grays lists edges old new step only calm s.clock b e o.register o.clock))

  pub count_step : (edges : ℕ → Bool) (past : Trace) (new : State) → IsStep d edges (now past) new → OnlySettling d syncs (now past) → AllCalm d syncs edges (now past) new (λ x. ⊤) → (n : ℕ)
      → map (now past).values (word d s.reg.count) ≡ binary (side_width d s) n → CountStep d s edges past new n
  count_step edges past new step only calm n h = go (count_moves edges (now past) new step only calm)
    where
      go : (map new.values (word d s.reg.count) ≡ map (now past).values (word d s.reg.count))
          ⊎ ((map new.values (word d s.reg.count) ≡ increment (map (now past).values (word d s.reg.count))) × (all_hold (now past).values s.under ≡ true) × (edges s.clock ≡ true))
          → CountStep d s edges past new n
      go (inl e) = Stays (same_agree (word d s.reg.count) (now past).values new.values (sym e)) (e ∙ h)
      go (inr (e, all, tick)) =
          let is : map new.values (word d s.reg.count) ≡ binary (side_width d s) (n + 1) = e ∙ ap increment h ∙ next_binary (side_width d s) n in
          Counts (false_from_ne_true (agree_on (word d s.reg.count) (now past).values new.values) (λ a.
          next_differs (side_width d s) n (let l = reg_wide in omega (arith, l)) (sym is ∙ sym (agree_same (word d s.reg.count) (now past).values new.values a) ∙ h))) is all tick

  pub first_zero : (v : State) → IsFirst d v → map v.values (word d s.reg.count) ≡ binary (side_width d s) 0
  first_zero v first = zero_word v.values s.reg.count 0 (side_width d s) (λ k l. first.start (record { sig = s.reg.count; at = k }) false
      (each_bit (λ b. d.start b ≡ Some false) s.reg.count 0 (side_width d s) k k side.start.0 (omega arith) (omega (arith, l))))

  -- over a sound run the word is that of the number of its changes
  pub counted : (rings : List Ring) (run : Trace) → IsSoundRun d syncs grays rings run → map (now run).values (word d s.reg.count) ≡ binary (side_width d s) (changes (word d s.reg.count) run)
  counted rings (Start v) h = first_zero v h
  counted rings (Then past edges new) h = go (count_step edges past new h.1 h.2.settled h.3 (changes (word d s.reg.count) past) (counted rings past h.0))
    where
      go : CountStep d s edges past new (changes (word d s.reg.count) past) → map new.values (word d s.reg.count) ≡ binary (side_width d s) (changes (word d s.reg.count) (Then past edges new))
      go (Stays a e) = e ∙ ap (binary (side_width d s)) ((let n = changes (word d s.reg.count) past in let f : n ≡ n + 0 = omega arith in f) ∙ ap (λ v. changes (word d s.reg.count) past + cond v 0 1) (sym a))
      go (Counts a e all tick) = e ∙ ap (binary (side_width d s)) (ap (λ v. changes (word d s.reg.count) past + cond v 0 1) (sym a))

pub changes_once : (bits : List Bit) (past : Trace) (edges : ℕ → Bool) (new : State) → (changes bits past ≤ changes bits (Then past edges new)) × (changes bits (Then past edges new) ≤ changes bits past + 1)
changes_once bits past edges new = go (agree_on bits (now past).values new.values)
  where
    go : (v : Bool) → (changes bits past ≤ changes bits past + cond v 0 1) × (changes bits past + cond v 0 1 ≤ changes bits past + 1)
    go true = (omega arith, omega arith)
    go false = (omega arith, omega arith)

-- The words of the flops behind a side's code: what they hold, where their clock doesn't tick, and where it does.
use Rattle.std.proofs.Common.{◌≡◌, ℕ, zero, suc, ◌+◌, ◌-◌, ◌<◌, ◌≤◌, Bool, true, false, Some, List, [], ◌∷◌, Contains, map, length, refl, sym, ap, ap₂, subst, ◌∙◌, arith}
use Rattle.std.specs.List.{AllByRecursion}
use Rattle.cdc_base.specs.declared.bit.Bit.{Bit}
use Rattle.cell_graph.specs.Reading.{Reading}
use Rattle.cell_graph.specs.Tree.{Tree}
use Rattle.cdc_model.specs.declared.scheme.GrayReg.{GrayReg}
use Rattle.cdc_model.specs.Design.{Design, bits_from, word, settle_by, settle_of}
use Rattle.cdc_model.specs.Facts.{OnlySettling, TakeWord}
use Rattle.cdc_model.specs.Gray.{gray_code}
use Rattle.cdc_model.specs.Runs.{State, is_in, ticks, IsStep}
use Rattle.cdc_model.specs.Schemes.{IsAt, Trees, Follows, Sync, flops, last_of, last_flop}
use Rattle.cdc_model.proofs.Chain.{same_place, before_at, at_clock, copy_takes}
use Rattle.fifo_terms.specs.Counts.{binary}
use Rattle.fifo_laws.specs.Fifos.{nth_flop, flop_words, flop_count, all_flops}
use Rattle.fifo_laws.specs.Keeps.{HoldCodes, last_number}
use Rattle.fifo_laws.specs.Laws.{AreLists}
use Rattle.fifo_laws.specs.Sides.{Side, IsSide}
use Rattle.fifo_laws.proofs.Rounds.{shifted}
use Rattle.fifo_laws.proofs.Sides.{AreOver, are_over, all_map, all_both}

-- the word of the flops at a place
abbrev pub stage : List Sync → ℕ → List Bit
stage over j = map (λ y. nth_flop j y.first y.more) over

at_nth : (j : ℕ) (f : Bit) (gs : List Bit) → j < length (f ∷ gs) → IsAt j (nth_flop j f gs) (f ∷ gs)
at_nth zero f gs l = refl
at_nth (suc j) f [] l = absurd (omega (arith, l))
at_nth (suc j) f (g ∷ gs) l = at_nth j g gs (omega (arith, l))

nth_last : (j : ℕ) (f : Bit) (gs : List Bit) → length gs ≡ j → nth_flop j f gs ≡ last_of f gs
nth_last zero f [] e = refl
nth_last zero f (g ∷ gs) e = absurd (omega (arith, e))
nth_last (suc j) f [] e = absurd (omega (arith, e))
nth_last (suc j) f (g ∷ gs) e = nth_last j g gs (omega (arith, e))

-- ---- what the words hold

-- the last word has the last number
last_code : (r : Reading) (w : ℕ) (over : List Sync) (j n m : ℕ) (ns : List ℕ) → HoldCodes r w (flop_words over j (suc n)) ns → map r (stage over (j + n)) ≡ gray_code (binary w (last_number m ns))
last_code r w over j n m [] h = absurd h
last_code r w over j zero m (k ∷ []) h = ap (λ i. map r (stage over i)) (let e : j + 0 ≡ j = omega arith in e) ∙ h.0
last_code r w over j zero m (k ∷ i ∷ is) h = absurd h.1
last_code r w over j (suc n) m (k ∷ ks) h = ap (λ i. map r (stage over i)) (let e : j + suc n ≡ suc j + n = omega arith in e) ∙ last_code r w over (suc j) n k ks h.1

hold_same : (r q : Reading) (w : ℕ) (over : List Sync) (j n : ℕ) (ns : List ℕ) → ((i : ℕ) → i < j + n → map q (stage over i) ≡ map r (stage over i)) → HoldCodes r w (flop_words over j n) ns → HoldCodes q w (flop_words over j n) ns
hold_same r q w over j zero [] same h = tt
hold_same r q w over j zero (k ∷ ks) same h = absurd h
hold_same r q w over j (suc n) [] same h = absurd h
hold_same r q w over j (suc n) (k ∷ ks) same h = (same j (omega arith) ∙ h.0, hold_same r q w over (suc j) n ks (λ i l. same i (omega (arith, l))) h.1)

-- each word takes the number of the one before it
hold_shifted : (r q : Reading) (w : ℕ) (over : List Sync) (j n f : ℕ) (ns : List ℕ) → (1 ≤ n → map q (stage over j) ≡ gray_code (binary w f))
    → ((i : ℕ) → suc i < j + n → map q (stage over (suc i)) ≡ map r (stage over i)) → HoldCodes r w (flop_words over j n) ns → HoldCodes q w (flop_words over j n) (shifted f ns)
hold_shifted r q w over j zero f [] first next h = tt
hold_shifted r q w over j zero f (k ∷ ks) first next h = absurd h
hold_shifted r q w over j (suc n) f [] first next h = absurd h
hold_shifted r q w over j (suc n) f (k ∷ ks) first next h = (
  first (omega arith),
  hold_shifted r q w over (suc j) n k ks (λ l. next j (omega (arith, l)) ∙ h.0) (λ i l. next i (omega (arith, l))) h.1,
)

one_count : (ys : List Sync) (n : ℕ) → AllByRecursion (λ y. length (flops y) ≡ n) ys → AllByRecursion (λ y. length (flops y) ≡ flop_count ys) ys
one_count [] n all = tt
one_count (y ∷ ys) n all = all_map (y ∷ ys) all (λ z e. e ∙ sym all.0)

-- A listed synchronizer on a clock, with a number of flops.
record Brings (d : Design) (syncs : List Sync) (c n : ℕ) (y : Sync) : Type 0 where
  pub listed : Contains syncs y
  pub clock : d.clock y.first ≡ Some c
  pub flops : length (flops y) ≡ n

map_all : {P : Sync → Type 0} (f g : Sync → Bit) (r q : Reading) (ys : List Sync) → AllByRecursion P ys → ((y : Sync) → P y → q (f y) ≡ r (g y)) → map q (map f ys) ≡ map r (map g ys)
map_all f g r q [] all h = refl
map_all f g r q (y ∷ ys) all h = ap₂ (λ x xs. x ∷ xs) (h y all.0) (map_all f g r q ys all.1 h)

module _ (d : Design) (tree : ℕ → Tree) (t : Trees) (syncs : List Sync) (grays : List GrayReg) (lists : AreLists d tree t syncs grays) (to : ℕ) (s : Side) (side : IsSide d tree syncs grays to s) where
  count : ℕ
  count = flop_count s.over

  listed_on : (bs : List Bit) (ys : List Sync) → AreOver d syncs to bs ys → AllByRecursion (λ y. Contains syncs y × (d.clock y.first ≡ Some to)) ys
  listed_on [] [] h = tt
  listed_on [] (y ∷ ys) h = absurd h
  listed_on (b ∷ bs) [] h = absurd h
  listed_on (b ∷ bs) (y ∷ ys) h = ((h.0.0, h.0.2), listed_on bs ys h.1)

  brings : AllByRecursion (Brings d syncs to (flop_count s.over)) s.over
  brings = all_both s.over (listed_on (word d s.reg.gray) s.over (are_over d tree t syncs grays lists to s side)) (one_count s.over side.one_length.0 side.one_length.1)
      (λ y p e. record { listed = p.0; clock = p.1; flops = e })

  -- the flop before a further one
  follows : (j : ℕ) (y : Sync) → Brings d syncs to (flop_count s.over) y → suc j < flop_count s.over → Follows d t (nth_flop j y.first y.more) (nth_flop (suc j) y.first y.more)
  follows j y p l =
      let b = before_at d t (settle_of d y.first) (3 - settle_of d y.first) y.first y.more (lists.are_syncs y p.listed).chain j (nth_flop (suc j) y.first y.more) (at_nth (suc j) y.first y.more (omega (arith, p.flops, l))) in
      subst (λ (x : Bit). Follows d t x (nth_flop (suc j) y.first y.more)) (same_place j b.0 (nth_flop j y.first y.more) (flops y) b.1 (at_nth j y.first y.more (omega (arith, p.flops, l)))) b.2

  on_clock : (j : ℕ) (y : Sync) → Brings d syncs to (flop_count s.over) y → j < flop_count s.over → d.clock (nth_flop j y.first y.more) ≡ Some to
  on_clock j y p l = at_clock d t lists.trees syncs lists.are_syncs y p.listed j (nth_flop j y.first y.more) (at_nth j y.first y.more (omega (arith, p.flops, l))) ∙ p.clock

  is_register : (j : ℕ) (y : Sync) → Brings d syncs to (flop_count s.over) y → j < flop_count s.over → d.is_register (nth_flop j y.first y.more) ≡ true
  is_register zero y p l = (lists.are_syncs y p.listed).crossing.register
  is_register (suc j) y p l = (follows j y p l).register

  -- the last words hold what has come over
  pub last_held : (r : Reading) (w m : ℕ) (ns : List ℕ) → 1 ≤ flop_count s.over → HoldCodes r w (all_flops s) ns → map r (map last_flop s.over) ≡ gray_code (binary w (last_number m ns))
  last_held r w m ns l h = go (flop_count s.over) refl l h
    where
      ends : (n : ℕ) → flop_count s.over ≡ suc n → map r (map last_flop s.over) ≡ map r (stage s.over n)
      ends n e = sym (map_all (λ y. nth_flop n y.first y.more) last_flop r r s.over brings (λ y p. ap r (nth_last n y.first y.more (omega (arith, p.flops, e)))))

      go : (n : ℕ) → flop_count s.over ≡ n → 1 ≤ n → HoldCodes r w (flop_words s.over 0 n) ns → map r (map last_flop s.over) ≡ gray_code (binary w (last_number m ns))
      go zero e l h = absurd (omega (arith, l))
      go (suc n) e l h = ends n e ∙ ap (λ i. map r (stage s.over i)) (let e : n ≡ 0 + n = omega arith in e) ∙ last_code r w s.over 0 n m ns h

  module _ (edges : ℕ → Bool) (old new : State) (step : IsStep d edges old new) (only : OnlySettling d syncs old) (settles : d.settle to ≡ 1) where
    ticking : (x : Bit) → d.clock x ≡ Some to → (v : Bool) → edges to ≡ v → ticks d edges x ≡ v
    ticking x c v e = ap (λ o. is_in o edges) c ∙ e

    -- a flop on this clock needs one cycle at most
    left_one : (x : Bit) → d.clock x ≡ Some to → old.left x ≤ 1
    left_one x c = go (old.left x) refl
      where
        go : (n : ℕ) → old.left x ≡ n → n ≤ 1
        go zero e = omega arith
        go (suc n) e = let (y, i, p) = only x (omega (arith, e)) in
            let one : settle_of d y.first ≡ 1 = ap (settle_by d.settle) (sym (at_clock d t lists.trees syncs lists.are_syncs y i p.0 x p.1) ∙ c) ∙ settles in
            omega (arith, p.2, one, e)

    stays : edges to ≡ false → (i : ℕ) → i < flop_count s.over → map new.values (stage s.over i) ≡ map old.values (stage s.over i)
    stays e i l = map_all (λ y. nth_flop i y.first y.more) (λ y. nth_flop i y.first y.more) old.values new.values s.over brings
        (λ y p. (step.held (nth_flop i y.first y.more) (is_register i y p l) (ticking (nth_flop i y.first y.more) (on_clock i y p l) false e)).0)

    moves : edges to ≡ true → (i : ℕ) → suc i < flop_count s.over → map new.values (stage s.over (suc i)) ≡ map old.values (stage s.over i)
    moves e i l = map_all (λ y. nth_flop (suc i) y.first y.more) (λ y. nth_flop i y.first y.more) old.values new.values s.over brings (λ y p.
        let f = follows i y p l in
        ((copy_takes d t lists.trees syncs lists.are_syncs edges old new step only (nth_flop (suc i) y.first y.more) (nth_flop i y.first y.more) f.register
        (ticking (nth_flop (suc i) y.first y.more) (on_clock (suc i) y p l) true e) f.copy (sym f.clock)).0 (left_one (nth_flop i y.first y.more) (on_clock i y p (omega (arith, l))))).0)

    -- the first flops take the word as it is in one reading
    firsts : (source : Reading) → TakeWord d syncs to s.reg.gray 0 new.values source → map new.values (stage s.over 0) ≡ map source (word d s.reg.gray)
    firsts source takes = go 0 (d.width s.reg.gray) s.over (are_over d tree t syncs grays lists to s side)
      where
        go : (i n : ℕ) (ys : List Sync) → AreOver d syncs to (bits_from s.reg.gray i n) ys → map new.values (stage ys 0) ≡ map source (bits_from s.reg.gray i n)
        go i zero [] h = refl
        go i zero (y ∷ ys) h = absurd h
        go i (suc n) [] h = absurd h
        go i (suc n) (y ∷ ys) h = ap₂ (λ x xs. x ∷ xs) (takes y y.first h.0.0 h.0.2 (ap (λ (b : Bit). b.sig) h.0.1) refl ∙ ap source h.0.1) (go (suc i) n ys h.1)

    pub flops_stay : (w : ℕ) (ns : List ℕ) → edges to ≡ false → HoldCodes old.values w (all_flops s) ns → HoldCodes new.values w (all_flops s) ns
    flops_stay w ns e h = hold_same old.values new.values w s.over 0 (flop_count s.over) ns (λ i l. stays e i (omega (arith, l))) h

    pub flops_move : (w f : ℕ) (source : Reading) (ns : List ℕ) → edges to ≡ true → TakeWord d syncs to s.reg.gray 0 new.values source → map source (word d s.reg.gray) ≡ gray_code (binary w f)
        → HoldCodes old.values w (all_flops s) ns → HoldCodes new.values w (all_flops s) (shifted f ns)
    flops_move w f source ns e takes is h = hold_shifted old.values new.values w s.over 0 (flop_count s.over) f ns (λ l. firsts source takes ∙ is) (λ i l. moves e i (omega (arith, l))) h

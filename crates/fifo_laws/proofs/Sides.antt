-- What a side of a FIFO is made of: registers of its clock that are never unsettled, and the synchronizers from its code.
use Rattle.std.proofs.Common.{◌≡◌, ℕ, zero, suc, ◌-◌, ◌<◌, ◌≤◌, ◌&&◌, Bool, true, false, Some, None, List, [], ◌∷◌, Contains, map, inl, inr, refl, sym, ap, ap₂, subst, ◌∙◌, arith}
use Rattle.std.specs.List.{AllByRecursion}
use Rattle.std.proofs.lemmas.Bool.{and_parts, both_ways, false_from_ne_true}
use Rattle.std.proofs.lemmas.List.Elements.{All-from_recursion, All-contains}
use Rattle.cdc_base.specs.declared.bit.Bit.{Bit}
use Rattle.cell_graph.specs.Reading.{Reading, bit_eq}
use Rattle.cell_graph.specs.Tree.{Tree, Var}
use Rattle.cell_graph.proofs.Bits.{bit_eq-true}
use Rattle.cell_graph.proofs.OriginSound.{origin_sound}
use Rattle.cdc_model.specs.declared.scheme.GrayReg.{GrayReg}
use Rattle.cdc_model.specs.Design.{Design, are_async, are_equal, bits_from, word, flipped, settle_of}
use Rattle.cdc_model.specs.Facts.{OnlySettling}
use Rattle.cdc_model.specs.Gray.{IsOwn, IsGray}
use Rattle.cdc_model.specs.GrayShape.{AreNextTrees, IsGrayReg}
use Rattle.cdc_model.specs.Runs.{State, AreLoose}
use Rattle.cdc_model.specs.Schemes.{IsAt, Trees, AreTrees, IsSync, Sync, is_settling, flops, last_flop}
use Rattle.cdc_model.specs.Word.{cells, origins, values}
use Rattle.cdc_model.proofs.Ascending.{from_filter}
use Rattle.cdc_model.proofs.Chain.{equal_eq, at_clock, before_at, left_zero, not_flipped, place_settling, settling_sync}
use Rattle.cdc_model.proofs.Behind.{place_unique}
use Rattle.cdc_model.proofs.Codes.{count_settled, code_settled}
use Rattle.cdc_model.proofs.Flips.{flipped_not, group_of_clock, same_clock_not_async}
use Rattle.cdc_model.proofs.GrayShape.{gray_reg_sound}
use Rattle.cdc_model.proofs.Rings.{last_settled, last_at}
use Rattle.fifo_laws.specs.Laws.{AreLists}
use Rattle.fifo_laws.specs.Sides.{Side, IsSide, bit_node, came_over, syncs_on}

-- ---- words as nodes

pub own_values : (r : Reading) (sig w i n : ℕ) → values r (cells (Var sig w) i n) ≡ map r (bits_from sig i n)
own_values r sig w i zero = refl
own_values r sig w i (suc n) = ap (λ xs. r (record { sig = sig; at = i }) ∷ xs) (own_values r sig w (suc i) n)

pub next_values : (d : Design) (tree : ℕ → Tree) → AreNextTrees d tree → (r : Reading) (sig i n : ℕ) → AllByRecursion (λ b. d.is_register b ≡ true) (bits_from sig i n)
    → map (d.next r) (bits_from sig i n) ≡ values r (origins (tree sig) i n)
next_values d tree net r sig i zero all = refl
next_values d tree net r sig i (suc n) all = ap₂ (λ x xs. x ∷ xs) (net.next r (record { sig = sig; at = i }) all.0 ∙ origin_sound r (tree sig) i) (next_values d tree net r sig (suc i) n all.1)

pub came_values : (d : Design) (r : Reading) (s : Side) → values r (came_over d s) ≡ map r (map last_flop s.over)
came_values d r s = go s.over
  where
    go : (ys : List Sync) → values r (map (λ y. bit_node d (last_flop y)) ys) ≡ map r (map last_flop ys)
    go [] = refl
    go (y ∷ ys) = ap (λ xs. r (last_flop y) ∷ xs) (go ys)

-- ---- lists

pub all_map : {A : Type 0} {P Q : A → Type 0} (xs : List A) → AllByRecursion P xs → ((x : A) → P x → Q x) → AllByRecursion Q xs
all_map [] all h = tt
all_map (x ∷ xs) all h = (h x all.0, all_map xs all.1 h)

pub all_both : {A : Type 0} {P Q R : A → Type 0} (xs : List A) → AllByRecursion P xs → AllByRecursion Q xs → ((x : A) → P x → Q x → R x) → AllByRecursion R xs
all_both [] ps qs h = tt
all_both (x ∷ xs) ps qs h = (h x ps.0 qs.0, all_both xs ps.1 qs.1 h)

pub same_map : {P : Bit → Type 0} (f g : Reading) (bits : List Bit) → AllByRecursion P bits → ((b : Bit) → P b → f b ≡ g b) → map f bits ≡ map g bits
same_map f g [] all h = refl
same_map f g (b ∷ bs) all h = ap₂ (λ x xs. x ∷ xs) (h b all.0) (same_map f g bs all.1 h)

head_of : (P : Bit → Type 0) (sig n : ℕ) → 1 ≤ n → AllByRecursion P (bits_from sig 0 n) → P (record { sig = sig; at = 0 })
head_of P sig zero l all = absurd (omega (arith, l))
head_of P sig (suc n) l all = all.0

-- ---- firm bits

-- A register bit of a clock that is no settling flop.
pub record IsFirm (d : Design) (syncs : List Sync) (c : ℕ) (b : Bit) : Type 0 where
  pub clock : d.clock b ≡ Some c
  pub settled : is_settling d syncs b ≡ false

-- each bit of the code has its synchronizer, on the clock
abbrev pub AreOver : Design → List Sync → ℕ → List Bit → List Sync → Type 0
AreOver d syncs c [] [] = Unit {0}
AreOver d syncs c [] (y ∷ ys) = ⊥
AreOver d syncs c (b ∷ bs) [] = ⊥
AreOver d syncs c (b ∷ bs) (y ∷ ys) = (Contains syncs y × (y.from ≡ b) × (d.clock y.first ≡ Some c)) × AreOver d syncs c bs ys

heads : {A : Type 0} (x y : A) (xs ys : List A) → x ∷ xs ≡ y ∷ ys → x ≡ y
heads x y xs ys e = cc

tails : {A : Type 0} (x y : A) (xs ys : List A) → x ∷ xs ≡ y ∷ ys → xs ≡ ys
tails x y xs ys e = cc

no_item : {A B : Type 0} (x : A) (xs : List A) → [] ≡ x ∷ xs → B
no_item x xs e = cc

pub over_of : (d : Design) (syncs : List Sync) (c : ℕ) (bs : List Bit) (ys : List Sync) → map (syncs_on d syncs c) bs ≡ map (λ y. y ∷ []) ys → AreOver d syncs c bs ys
over_of d syncs c [] [] e = tt
over_of d syncs c [] (y ∷ ys) e = no_item (y ∷ []) (map (λ y. y ∷ []) ys) e
over_of d syncs c (b ∷ bs) [] e = no_item (syncs_on d syncs c b) (map (syncs_on d syncs c) bs) (sym e)
over_of d syncs c (b ∷ bs) (y ∷ ys) e = (
  one (heads (syncs_on d syncs c b) (y ∷ []) (map (syncs_on d syncs c) bs) (map (λ y. y ∷ []) ys) e),
  over_of d syncs c bs ys (tails (syncs_on d syncs c b) (y ∷ []) (map (syncs_on d syncs c) bs) (map (λ y. y ∷ []) ys) e),
)
  where
    one : syncs_on d syncs c b ≡ y ∷ [] → Contains syncs y × (y.from ≡ b) × (d.clock y.first ≡ Some c)
    one h = let p = from_filter (λ s. bit_eq s.from b && are_equal (d.clock s.first) (Some c)) syncs y (subst (λ (ss : List Sync). Contains ss y) (sym h) (0, omega arith, refl)) in
        let q = and_parts (bit_eq y.from b) (are_equal (d.clock y.first) (Some c)) p.1 in
        (p.0, bit_eq-true y.from b q.0, equal_eq (d.clock y.first) (Some c) q.1)

module _ (d : Design) (t : Trees) (laws : AreTrees d t) (syncs : List Sync) (ok : (s : Sync) → Contains syncs s → IsSync d t s) where
  -- a bit that copies none is no settling flop
  pub free_settled : (c : ℕ) (b : Bit) → d.is_register b ≡ true → d.clock b ≡ Some c → d.copied b ≡ None → is_settling d syncs b ≡ false
  free_settled c b reg clock none = count_settled d t laws syncs ok c b (record { register = reg; clock = clock; own = λ a e. no_copy a (sym none ∙ e) })
    where
      no_copy : {A : Type 0} (a : Bit) → None ≡ Some a → A
      no_copy a e = cc

module _ (d : Design) (tree : ℕ → Tree) (t : Trees) (syncs : List Sync) (grays : List GrayReg) (lists : AreLists d tree t syncs grays) where
  -- in a state where only settling flops are unsettled, a firm bit isn't loose for a bit of its clock
  pub firm_flipped : (old : State) (new : Reading) (x b : Bit) (c : ℕ) (flips : Bit → Bool) → OnlySettling d syncs old → IsFirm d syncs c b → d.clock x ≡ Some c
      → AreLoose d old new x flips → flipped flips old.values b ≡ old.values b
  firm_flipped old new x b c flips only firm clock loose = flipped_not flips old.values b (not_flipped d t lists.trees syncs lists.are_syncs old new x b flips
      (left_zero d t lists.trees syncs lists.are_syncs old only b firm.settled) (group_of_clock d b x (firm.clock ∙ sym clock)) loose)

  pub firm_word : (old : State) (new : Reading) (x : Bit) (c : ℕ) (flips : Bit → Bool) → OnlySettling d syncs old → d.clock x ≡ Some c → AreLoose d old new x flips
      → (bits : List Bit) → AllByRecursion (IsFirm d syncs c) bits → map (flipped flips old.values) bits ≡ map old.values bits
  firm_word old new x c flips only clock loose bits all = same_map (flipped flips old.values) old.values bits all (λ b firm. firm_flipped old new x b c flips only firm clock loose)

  module _ (to : ℕ) (s : Side) (side : IsSide d tree syncs grays to s) where
    pub gray_reg : IsGrayReg d tree s.reg
    gray_reg = lists.are_grays s.reg side.listed

    pub is_gray : IsGray d s.reg
    is_gray = gray_reg_sound d tree lists.next s.reg gray_reg

    same_clock : is_gray.one_clock.0 ≡ s.clock
    same_clock = go (is_gray.one_clock.0) (head_of (IsOwn d is_gray.one_clock.0 []) s.reg.count (d.width s.reg.count) (omega (arith, gray_reg.width.0)) is_gray.one_clock.1)
        (head_of (λ b. d.clock b ≡ Some s.clock) s.reg.count (d.width s.reg.count) (omega (arith, gray_reg.width.0)) side.clock)
      where
        go : (c : ℕ) → IsOwn d c [] (record { sig = s.reg.count; at = 0 }) → d.clock (record { sig = s.reg.count; at = 0 }) ≡ Some s.clock → c ≡ s.clock
        go c o e = let h : Some c ≡ Some s.clock = sym o.clock ∙ e in cc

    -- the bits of the counter and of the code are registers of the side's clock, and copy none but themselves and each other
    pub counts_own : AllByRecursion (IsOwn d s.clock []) (word d s.reg.count)
    counts_own = subst (λ (c : ℕ). AllByRecursion (IsOwn d c []) (word d s.reg.count)) same_clock is_gray.one_clock.1

    pub codes_own : AllByRecursion (IsOwn d s.clock (word d s.reg.count)) (word d s.reg.gray)
    codes_own = subst (λ (c : ℕ). AllByRecursion (IsOwn d c (word d s.reg.count)) (word d s.reg.gray)) same_clock is_gray.one_clock.2

    pub counts_firm : AllByRecursion (IsFirm d syncs s.clock) (word d s.reg.count)
    counts_firm = all_map (word d s.reg.count) counts_own (λ b o. record { clock = o.clock; settled = count_settled d t lists.trees syncs lists.are_syncs s.clock b o })

    pub codes_firm : AllByRecursion (IsFirm d syncs s.clock) (word d s.reg.gray)
    codes_firm = all_map (word d s.reg.gray) codes_own (λ b o. record { clock = o.clock; settled = code_settled d t lists.trees syncs lists.are_syncs s.clock (word d s.reg.count) counts_own b o })

    pub are_over : AreOver d syncs to (word d s.reg.gray) s.over
    are_over = over_of d syncs to (word d s.reg.gray) s.over side.over

    -- the last flops are on the other clock
    pub last_firm : AllByRecursion (IsFirm d syncs to) (map last_flop s.over)
    last_firm = go (word d s.reg.gray) s.over are_over
      where
        one : (y : Sync) → Contains syncs y → d.clock y.first ≡ Some to → IsFirm d syncs to (last_flop y)
        one y i c = record {
          clock = (let h = last_at d t (settle_of d y.first) (3 - settle_of d y.first) y.first y.more (lists.are_syncs y i).chain in at_clock d t lists.trees syncs lists.are_syncs y i h.0 (last_flop y) h.2) ∙ c;
          settled = (last_settled d t lists.trees syncs lists.are_syncs y i).0;
        }

        go : (bs : List Bit) (ys : List Sync) → AreOver d syncs to bs ys → AllByRecursion (IsFirm d syncs to) (map last_flop ys)
        go [] [] h = tt
        go [] (y ∷ ys) h = absurd h
        go (b ∷ bs) [] h = absurd h
        go (b ∷ bs) (y ∷ ys) h = (one y h.0.0 h.0.2, go bs ys h.1)

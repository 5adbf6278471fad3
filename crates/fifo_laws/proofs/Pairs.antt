-- The two sides of a FIFO in one state: what the words hold of each, what came over, and what the tests of a push and of a pop tell.
use Rattle.std.proofs.Common.{◌≡◌, ◌≢◌, ℕ, zero, suc, ◌+◌, ◌-◌, ◌^◌, ◌<◌, ◌≤◌, Bool, true, false, List, [], ◌∷◌, map, inl, inr, refl, sym, ap, ap₂, subst, ◌∙◌, arith}
use Rattle.std.specs.Bool.{beq}
use Rattle.cdc_base.specs.declared.bit.Bit.{Bit}
use Rattle.cell_graph.specs.Reading.{Reading}
use Rattle.cell_graph.specs.Tree.{Tree}
use Rattle.cdc_model.specs.declared.scheme.GrayReg.{GrayReg}
use Rattle.cdc_model.specs.Design.{Design, bits_from, word}
use Rattle.cdc_model.specs.Facts.{IsCoded}
use Rattle.cdc_model.specs.Gray.{gray_code}
use Rattle.cdc_model.specs.Schemes.{Trees, Sync, last_flop}
use Rattle.fifo_terms.specs.Counts.{binary}
use Rattle.fifo_terms.specs.Terms.{Term, holds}
use Rattle.fifo_laws.specs.Fifos.{Fifo, IsFifo, flop_count, all_flops}
use Rattle.fifo_laws.specs.Keeps.{AreHeld, last_number, HoldCodes}
use Rattle.fifo_laws.specs.Laws.{AreLists}
use Rattle.fifo_laws.specs.Sides.{Side, side_width}
use Rattle.fifo_laws.specs.Tests.{IsFullFlag, IsEmptyFlag, IsFullTest, IsEmptyTest}
use Rattle.fifo_laws.proofs.Flops.{last_held}
use Rattle.fifo_laws.proofs.Sides.{AreOver, are_over, gray_reg}
use Rattle.fifo_laws.proofs.StepSide.{Holds}
use Rattle.fifo_laws.proofs.Tell.{test_full, test_empty}

-- ---- a side's words by their names

module _ (d : Design) (s : Side) (r : Reading) (count gray w : ℕ) (words : List (List Bit)) (named : s.reg.count ≡ count) (coded : s.reg.gray ≡ gray) (wide : side_width d s ≡ w)
    (alike : d.width s.reg.gray ≡ side_width d s) (behind : words ≡ all_flops s) where
  counts : map r (word d s.reg.count) ≡ map r (bits_from count 0 w)
  counts = ap₂ (λ c v. map r (bits_from c 0 v)) named wide

  codes : map r (word d s.reg.gray) ≡ map r (bits_from gray 0 w)
  codes = ap₂ (λ c v. map r (bits_from c 0 v)) coded (alike ∙ wide)

  pub to_side : (n m : ℕ) (ns : List ℕ) → map r (bits_from count 0 w) ≡ binary w n → map r (bits_from gray 0 w) ≡ gray_code (binary w m) → HoldCodes r w words ns → Holds d s r n m ns
  to_side n m ns c g h = record {
    count = counts ∙ c ∙ ap (λ v. binary v n) (sym wide);
    code = codes ∙ g ∙ ap (λ v. gray_code (binary v m)) (sym wide);
    flops = subst (λ (v : ℕ). HoldCodes r v (all_flops s) ns) (sym wide) (subst (λ (bss : List (List Bit)). HoldCodes r w bss ns) behind h);
  }

  pub side_count : (n m : ℕ) (ns : List ℕ) → Holds d s r n m ns → map r (bits_from count 0 w) ≡ binary w n
  side_count n m ns h = sym counts ∙ h.count ∙ ap (λ v. binary v n) wide

  pub side_code : (n m : ℕ) (ns : List ℕ) → Holds d s r n m ns → map r (bits_from gray 0 w) ≡ gray_code (binary w m)
  side_code n m ns h = sym codes ∙ h.code ∙ ap (λ v. gray_code (binary v m)) wide

  pub side_flops : (n m : ℕ) (ns : List ℕ) → Holds d s r n m ns → HoldCodes r w words ns
  side_flops n m ns h = subst (λ (bss : List (List Bit)). HoldCodes r w bss ns) (sym behind) (subst (λ (v : ℕ). HoldCodes r v (all_flops s) ns) wide h.flops)

some_flops : (d : Design) (syncs : List Sync) (c g i n : ℕ) (ys : List Sync) → 1 ≤ n → AreOver d syncs c (bits_from g i n) ys → 1 ≤ flop_count ys
some_flops d syncs c g i zero ys l h = absurd (omega (arith, l))
some_flops d syncs c g i (suc n) [] l h = absurd h
some_flops d syncs c g i (suc n) (y ∷ ys) l h = omega arith

beq_same : (a b : Bool) → beq a b ≡ true → a ≡ b
beq_same true true h = refl
beq_same true false h = cc
beq_same false true h = cc
beq_same false false h = refl

-- ---- a FIFO's two sides

module _ (d : Design) (tree : ℕ → Tree) (t : Trees) (syncs : List Sync) (grays : List GrayReg) (lists : AreLists d tree t syncs grays) (f : Fifo) (fifo : IsFifo d tree syncs grays f) where
  -- the width is one more than the number of index bits
  pub write_wide : side_width d fifo.write ≡ suc (f.width - 1)
  write_wide = omega (arith, fifo.wide.0, fifo.wide.2)

  pub read_wide : side_width d fifo.read ≡ suc (f.width - 1)
  read_wide = omega (arith, fifo.wide.0, fifo.wide.3)

  write_alike : d.width fifo.write.reg.gray ≡ side_width d fifo.write
  write_alike = (gray_reg d tree t syncs grays lists fifo.read.clock fifo.write fifo.writes).width.2

  read_alike : d.width fifo.read.reg.gray ≡ side_width d fifo.read
  read_alike = (gray_reg d tree t syncs grays lists fifo.write.clock fifo.read fifo.reads).width.2

  write_flops : 1 ≤ flop_count fifo.write.over
  write_flops = some_flops d syncs fifo.read.clock fifo.write.reg.gray 0 (d.width fifo.write.reg.gray) fifo.write.over (omega (arith, write_alike, write_wide))
      (are_over d tree t syncs grays lists fifo.read.clock fifo.write fifo.writes)

  read_flops : 1 ≤ flop_count fifo.read.over
  read_flops = some_flops d syncs fifo.write.clock fifo.read.reg.gray 0 (d.width fifo.read.reg.gray) fifo.read.over (omega (arith, read_alike, read_wide))
      (are_over d tree t syncs grays lists fifo.write.clock fifo.read fifo.reads)

  module _ (r : Reading) where
    pub write_holds : (n m : ℕ) (ns : List ℕ) → map r (bits_from f.wb 0 f.width) ≡ binary f.width n → map r (bits_from f.wg 0 f.width) ≡ gray_code (binary f.width m) → HoldCodes r f.width f.there ns
        → Holds d fifo.write r n m ns
    write_holds = to_side d fifo.write r f.wb f.wg f.width f.there fifo.named.0 fifo.named.1 fifo.wide.2 write_alike fifo.flops.0

    pub read_holds : (n m : ℕ) (ns : List ℕ) → map r (bits_from f.rb 0 f.width) ≡ binary f.width n → map r (bits_from f.rg 0 f.width) ≡ gray_code (binary f.width m) → HoldCodes r f.width f.back ns
        → Holds d fifo.read r n m ns
    read_holds = to_side d fifo.read r f.rb f.rg f.width f.back fifo.named.2 fifo.named.3 fifo.wide.3 read_alike fifo.flops.1

    pub are_held : (n m k l : ℕ) (ns ks : List ℕ) → Holds d fifo.write r n m ns → Holds d fifo.read r k l ks → AreHeld f r (record { wb = n; wg = m; there = ns; rb = k; rg = l; back = ks })
    are_held n m k l ns ks write read = record {
      wb = side_count d fifo.write r f.wb f.wg f.width f.there fifo.named.0 fifo.named.1 fifo.wide.2 write_alike fifo.flops.0 n m ns write;
      wg = side_code d fifo.write r f.wb f.wg f.width f.there fifo.named.0 fifo.named.1 fifo.wide.2 write_alike fifo.flops.0 n m ns write;
      there = side_flops d fifo.write r f.wb f.wg f.width f.there fifo.named.0 fifo.named.1 fifo.wide.2 write_alike fifo.flops.0 n m ns write;
      rb = side_count d fifo.read r f.rb f.rg f.width f.back fifo.named.2 fifo.named.3 fifo.wide.3 read_alike fifo.flops.1 k l ks read;
      rg = side_code d fifo.read r f.rb f.rg f.width f.back fifo.named.2 fifo.named.3 fifo.wide.3 read_alike fifo.flops.1 k l ks read;
      back = side_flops d fifo.read r f.rb f.rg f.width f.back fifo.named.2 fifo.named.3 fifo.wide.3 read_alike fifo.flops.1 k l ks read;
    }

    -- what the last flops hold of the other side's count
    pub came_there : (n m : ℕ) (ns : List ℕ) → Holds d fifo.write r n m ns → map r (map last_flop fifo.write.over) ≡ gray_code (binary (side_width d fifo.read) (last_number m ns))
    came_there n m ns h = last_held d tree t syncs grays lists fifo.read.clock fifo.write fifo.writes r (side_width d fifo.write) m ns write_flops h.flops
        ∙ ap (λ v. gray_code (binary v (last_number m ns))) (write_wide ∙ sym read_wide)

    pub came_back : (n m : ℕ) (ns : List ℕ) → Holds d fifo.read r n m ns → map r (map last_flop fifo.read.over) ≡ gray_code (binary (side_width d fifo.write) (last_number m ns))
    came_back n m ns h = last_held d tree t syncs grays lists fifo.write.clock fifo.read fifo.reads r (side_width d fifo.read) m ns read_flops h.flops
        ∙ ap (λ v. gray_code (binary v (last_number m ns))) (read_wide ∙ sym write_wide)

    -- a test for full that holds in a reading tells that a word has room; flags are right in it
    pub full_tells : (n m : ℕ) → map r (word d fifo.write.reg.count) ≡ binary (side_width d fifo.write) n → IsCoded fifo.write.reg.shape (map r (word d fifo.write.reg.count)) (map r (word d fifo.write.reg.gray))
        → map r (map last_flop fifo.read.over) ≡ gray_code (binary (side_width d fifo.write) m) → n ≤ m + f.depth → ((b : Bit) (v : Bool) → IsFullFlag d tree fifo.write fifo.read b v → r b ≡ v → n < m + f.depth)
        → (u : Term) → IsFullTest d tree fifo.write fifo.read u → holds r u ≡ true → n < m + f.depth
    full_tells n m count coded came room flags u (inl p) h =
        let ne : n ≢ m + 2 ^ (f.width - 1) = test_full d tree t syncs grays lists fifo.read.clock fifo.write fifo.writes r fifo.read (f.width - 1) n m write_wide count coded came u p h in
        omega (arith, ne, room, fifo.deep)
    full_tells n m count coded came room flags u (inr (b, v, e, flag)) h =
        flags b v flag (beq_same (r b) v (sym (ap (holds r) e) ∙ h))

    pub empty_tells : (n m : ℕ) → map r (word d fifo.read.reg.count) ≡ binary (side_width d fifo.read) n → IsCoded fifo.read.reg.shape (map r (word d fifo.read.reg.count)) (map r (word d fifo.read.reg.gray))
        → map r (map last_flop fifo.write.over) ≡ gray_code (binary (side_width d fifo.read) m) → n ≤ m → ((b : Bit) (v : Bool) → IsEmptyFlag d tree fifo.write fifo.read b v → r b ≡ v → n < m)
        → (u : Term) → IsEmptyTest d tree fifo.write fifo.read u → holds r u ≡ true → n < m
    empty_tells n m count coded came room flags u (inl p) h =
        let ne : n ≢ m = test_empty d tree t syncs grays lists fifo.write.clock fifo.read fifo.reads r fifo.write (f.width - 1) n m read_wide count coded came u p h in
        omega (arith, ne, room)
    empty_tells n m count coded came room flags u (inr (b, v, e, flag)) h =
        flags b v flag (beq_same (r b) v (sym (ap (holds r) e) ∙ h))

-- A side in a calm and whole step: its counter goes on by one at most, its code and the flops behind it never go back.
use Rattle.std.proofs.Common.{◌≡◌, ℕ, ◌≤◌, Bool, true, false, cond, Some, List, [], map, ◌⊎◌, inl, inr, refl, ap, ◌∙◌, arith}
use Rattle.std.specs.Prelude.{⊤}
use Rattle.cdc_base.specs.declared.bit.Bit.{Bit}
use Rattle.cell_graph.specs.Reading.{Reading}
use Rattle.cell_graph.specs.Tree.{Tree}
use Rattle.cdc_model.specs.declared.scheme.GrayReg.{GrayReg}
use Rattle.cdc_model.specs.declared.scheme.Shape.{Shape}
use Rattle.cdc_model.specs.declared.scheme.Shape.TheVariants.{G1, G2, G3}
use Rattle.cdc_model.specs.Design.{Design, word}
use Rattle.cdc_model.specs.Facts.{OnlySettling, AllCalm, TakeWord}
use Rattle.cdc_model.specs.Gray.{Codes, IsOwn, increment, gray_code}
use Rattle.cdc_model.specs.Runs.{State, is_in, ticks, IsStep}
use Rattle.cdc_model.specs.Schemes.{Trees, Sync, is_settling}
use Rattle.cdc_model.specs.Word.{origins, own_word, values}
use Rattle.fifo_terms.specs.Counts.{binary}
use Rattle.fifo_terms.specs.Terms.{all_hold}
use Rattle.fifo_terms.proofs.Binary.{next_binary}
use Rattle.fifo_terms.proofs.Counts.{counts_sound}
use Rattle.fifo_laws.specs.Fifos.{all_flops}
use Rattle.fifo_laws.specs.Keeps.{FallsTo, last_number, HoldCodes}
use Rattle.fifo_laws.specs.Laws.{AreLists}
use Rattle.fifo_laws.specs.Sides.{Side, IsSide, side_width}
use Rattle.fifo_laws.proofs.Flops.{flops_stay, flops_move}
use Rattle.fifo_laws.proofs.Rounds.{shifted, falls_first, shifted_falls, shifted_last, last_more}
use Rattle.fifo_laws.proofs.Sides.{is_gray, counts_own, codes_own, counts_firm, codes_firm, IsFirm, all_map, all_both, same_map, own_values, next_values}
use Rattle.fifo_laws.proofs.Tell.{counted}

-- A side's words hold the numbers of its counter, of its code and of the flops behind it.
pub record Holds (d : Design) (s : Side) (r : Reading) (n m : ℕ) (ns : List ℕ) : Type 0 where
  pub count : map r (word d s.reg.count) ≡ binary (side_width d s) n
  pub code : map r (word d s.reg.gray) ≡ gray_code (binary (side_width d s) m)
  pub flops : HoldCodes r (side_width d s) (all_flops s) ns

-- The numbers after a step in which the counter takes n: none goes back.
pub record Moved (d : Design) (s : Side) (r : Reading) (n m : ℕ) (ns : List ℕ) : Type 0 where
  pub code : ℕ
  pub flops : List ℕ
  pub holds : Holds d s r n code flops
  pub above : m ≤ code
  pub below : code ≤ n
  pub falls : (low : ℕ) → FallsTo low m ns → FallsTo low code flops
  pub last : (low : ℕ) → FallsTo low m ns → last_number m ns ≤ last_number code flops

-- the code that is taken has a number between its own and that of the counter
code_number : (w : ℕ) (shape : Shape) (b g c h : List Bool) (n m k : ℕ) → Codes shape b g c h → b ≡ binary w n → g ≡ gray_code (binary w m) → c ≡ binary w k → m ≤ n → n ≤ k
    → (i : ℕ) × (h ≡ gray_code (binary w i)) × (m ≤ i) × (i ≤ k)
code_number w G1 b g c h n m k e p q o l u = (k, e ∙ ap gray_code o, omega (arith, l, u), omega arith)
code_number w G2 b g c h n m k (inl e) p q o l u = (k, e ∙ ap gray_code o, omega (arith, l, u), omega arith)
code_number w G2 b g c h n m k (inr e) p q o l u = (m, e.1 ∙ q, omega arith, omega (arith, l, u))
code_number w G3 b g c h n m k e p q o l u = (n, e ∙ ap gray_code p, l, u)

counted_more : (v : Bool) (n : ℕ) → n ≤ counted v n
counted_more true n = omega arith
counted_more false n = omega arith

module _ (d : Design) (tree : ℕ → Tree) (t : Trees) (syncs : List Sync) (grays : List GrayReg) (lists : AreLists d tree t syncs grays)
    (edges : ℕ → Bool) (old new : State) (step : IsStep d edges old new) (only : OnlySettling d syncs old) (calm : AllCalm d syncs edges old new (λ x. ⊤)) where
  -- a bit of a ticking clock that is no settling flop takes its next value
  pub ticked : (c : ℕ) (b : Bit) → edges c ≡ true → d.is_register b ≡ true → d.clock b ≡ Some c → is_settling d syncs b ≡ false → new.values b ≡ d.next old.values b
  ticked c b e reg clock settled =
      let ticking : ticks d edges b ≡ true = ap (λ o. is_in o edges) clock ∙ e in
      let p = step.captured b reg ticking in
      p.2 ∙ calm b reg ticking settled tt p.0 p.1

  pub waited : (c : ℕ) (b : Bit) → edges c ≡ false → d.is_register b ≡ true → d.clock b ≡ Some c → new.values b ≡ old.values b
  waited c b e reg clock = (step.held b reg (ap (λ o. is_in o edges) clock ∙ e)).0

  module _ (to : ℕ) (s : Side) (side : IsSide d tree syncs grays to s) (settles : d.settle to ≡ 1)
      (whole : edges to ≡ true → TakeWord d syncs to s.reg.gray 0 new.values old.values ⊎ TakeWord d syncs to s.reg.gray 0 new.values new.values)
      (n m : ℕ) (ns : List ℕ) (order : m ≤ n) (holds : Holds d s old.values n m ns) where
    -- the counter's number after the step
    abbrev pub next_number : ℕ
    next_number = cond (edges s.clock) (counted (all_hold old.values s.under) n) n

    count_takes : edges s.clock ≡ true → map new.values (word d s.reg.count) ≡ map (d.next old.values) (word d s.reg.count)
    count_takes e = same_map {P = λ b. IsOwn d s.clock [] b × IsFirm d syncs s.clock b} new.values (d.next old.values) (word d s.reg.count)
        (all_both (word d s.reg.count) (counts_own d tree t syncs grays lists to s side) (counts_firm d tree t syncs grays lists to s side) (λ b o f. (o, f)))
        (λ b p. ticked s.clock b e p.0.register p.0.clock p.1.settled)

    count_next : map (d.next old.values) (word d s.reg.count) ≡ binary (side_width d s) (counted (all_hold old.values s.under) n)
    count_next = next_values d tree lists.next old.values s.reg.count 0 (side_width d s) (all_map (word d s.reg.count) (counts_own d tree t syncs grays lists to s side) (λ b o. o.register))
        ∙ counts_sound old.values s.reg.count (side_width d s) (origins (tree s.reg.count) 0 (side_width d s)) s.under side.counts
        ∙ go (all_hold old.values s.under) (values old.values (own_word s.reg.count (side_width d s))) (own_values old.values s.reg.count (side_width d s) 0 (side_width d s) ∙ holds.count)
      where
        go : (v : Bool) (xs : List Bool) → xs ≡ binary (side_width d s) n → cond v (increment xs) xs ≡ binary (side_width d s) (counted v n)
        go true xs e = ap increment e ∙ next_binary (side_width d s) n
        go false xs e = e

    code_takes : edges s.clock ≡ true → map new.values (word d s.reg.gray) ≡ map (d.next old.values) (word d s.reg.gray)
    code_takes e = same_map {P = λ b. IsOwn d s.clock (word d s.reg.count) b × IsFirm d syncs s.clock b} new.values (d.next old.values) (word d s.reg.gray)
        (all_both (word d s.reg.gray) (codes_own d tree t syncs grays lists to s side) (codes_firm d tree t syncs grays lists to s side) (λ b o f. (o, f)))
        (λ b p. ticked s.clock b e p.0.register p.0.clock p.1.settled)

    -- counter and code after the step
    front : (i : ℕ) × (map new.values (word d s.reg.count) ≡ binary (side_width d s) next_number) × (map new.values (word d s.reg.gray) ≡ gray_code (binary (side_width d s) i)) × (m ≤ i) × (i ≤ next_number)
    front = go (edges s.clock) refl
      where
        go : (v : Bool) → edges s.clock ≡ v → (i : ℕ) × (map new.values (word d s.reg.count) ≡ binary (side_width d s) (cond v (counted (all_hold old.values s.under) n) n))
            × (map new.values (word d s.reg.gray) ≡ gray_code (binary (side_width d s) i)) × (m ≤ i) × (i ≤ cond v (counted (all_hold old.values s.under) n) n)
        go true e = let p = code_number (side_width d s) s.reg.shape (map old.values (word d s.reg.count)) (map old.values (word d s.reg.gray)) (map (d.next old.values) (word d s.reg.count))
            (map (d.next old.values) (word d s.reg.gray)) n m (counted (all_hold old.values s.under) n) ((is_gray d tree t syncs grays lists to s side).codes old.values) holds.count holds.code count_next order
            (counted_more (all_hold old.values s.under) n) in
            (p.0, count_takes e ∙ count_next, code_takes e ∙ p.1, p.2, p.3)
        go false e = (
          m,
          same_map new.values old.values (word d s.reg.count) (counts_own d tree t syncs grays lists to s side) (λ b o. waited s.clock b e o.register o.clock) ∙ holds.count,
          same_map new.values old.values (word d s.reg.gray) (codes_own d tree t syncs grays lists to s side) (λ b o. waited s.clock b e o.register o.clock) ∙ holds.code,
          omega arith,
          order,
        )

    pub side_moved : Moved d s new.values next_number m ns
    side_moved = go (edges to) refl
      where
        stays : edges to ≡ false → Moved d s new.values next_number m ns
        stays e = record {
          code = front.0;
          flops = ns;
          holds = record { count = front.1; code = front.2; flops = flops_stay d tree t syncs grays lists to s side edges old new step only settles (side_width d s) ns e holds.flops };
          above = front.3;
          below = front.4;
          falls = λ low h. falls_first low m front.0 ns h front.3;
          last = λ low h. last_more m front.0 ns front.3;
        }

        moves : (f : ℕ) (source : Reading) → edges to ≡ true → TakeWord d syncs to s.reg.gray 0 new.values source → map source (word d s.reg.gray) ≡ gray_code (binary (side_width d s) f)
            → m ≤ f → f ≤ front.0 → Moved d s new.values next_number m ns
        moves f source e takes is l u = record {
          code = front.0;
          flops = shifted f ns;
          holds = record { count = front.1; code = front.2; flops = flops_move d tree t syncs grays lists to s side edges old new step only settles (side_width d s) f source ns e takes is holds.flops };
          above = front.3;
          below = front.4;
          falls = λ low h. falls_first low f front.0 (shifted f ns) (shifted_falls low m f ns h l) u;
          last = λ low h. shifted_last low m f front.0 ns h l front.3;
        }

        go : (v : Bool) → edges to ≡ v → Moved d s new.values next_number m ns
        go false e = stays e
        go true e = elim (whole e) [
          | inl takes ↦ moves m old.values e takes holds.code (omega arith) front.3
          | inr takes ↦ moves front.0 new.values e takes front.2 front.3 (omega arith)
        ]

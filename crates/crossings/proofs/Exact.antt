-- Where no other group stands below a next value, no crossing leads into it.
use Rattle.std.proofs.Common.{◌≡◌, ◌∙◌, refl, sym, ap, subst, arith, ℕ, ◌+◌, ◌<◌, not, eq-eqb, true, false, Option, Some, None, option_map, List, [], ◌++◌, map, length, length-append, append_assoc, drop, get_or, Contains, slice_get, unwrap_or, Result, Ok, Err}
use Rattle.std.specs.Prelude.{option_and_then, filter, IfErr}
use Rattle.std.proofs.lemmas.List.{drop_more}
use Rattle.std.proofs.lemmas.List.Elements.{Contains-get_or}
use Rattle.std.proofs.lemmas.Option.{slice_get-map}
use Rattle.cdc_base.specs.declared.bit.Bit.{Bit}
use Rattle.cdc_base.specs.declared.fault.Stop.{Stop}
use Rattle.cdc_base.specs.declared.fault.Stop.TheVariants.{Refused, Memory}
use Rattle.cell_graph.specs.declared.cell.CellId.{CellId}
use Rattle.cell_graph.specs.declared.cell.Node.{Node}
use Rattle.cell_graph.specs.declared.net.Net.{Net}
use Rattle.refusals.specs.Limits.{HasCause}
use Rattle.cell_graph.specs.Cofactor.{reads}
use Rattle.domains.specs.declared.Domains.{Domains}
use Rattle.domains.specs.Assignment.{group_of}
use Rattle.domains.specs.Fit.{Fit}
use Rattle.domains.specs.Nets.{IsNet}
use Rattle.cdc_model.specs.declared.below.Marks.{Marks}
use Rattle.cdc_model.specs.declared.below.Marks.TheVariants.{Nothing, One}
use Rattle.cdc_model.specs.declared.scheme.Crossing.{Crossing}
use Rattle.cdc_model.specs.Design.{differ, are_async}
use Rattle.cdc_model.specs.Found.{bits_of_signals, bits_read_by, crossings_from, crossings_into, crossings_among}
use Rattle.cdc_model.specs.Marked.{Admits, mark_of, marks_at}
use Rattle.cdc_model.specs.Nets.{next_cell, next_node_of, next_tree, tree_or_zero, bit_count, bits_of_registers, design_of, HasNextCells}
use Rattle.cdc_model.proofs.Found.{from_registers}
use Rattle.cdc_model.proofs.Marked.{admitted}
use Rattle.cdc_model.proofs.ReadBits.{filter-none, cell-of, no-cell, into-is, none-into}
use Rattle.crossings.specs.Groups.{ShowsGroups}

-- ---- groups by signal

pub marks-are : (d : Domains) (b : Bit) → mark_of (map (λ clock. option_and_then (slice_get d.group_by_clock) clock) d.clock_by_sig) b.sig ≡ group_of d b
marks-are d b = ap (λ o. unwrap_or o None) (slice_get-map (λ clock. option_and_then (slice_get d.group_by_clock) clock) d.clock_by_sig b.sig) ∙ go (slice_get d.clock_by_sig b.sig)
  where
    go : (o : Option (Option ℕ)) → unwrap_or (option_map (λ clock. option_and_then (slice_get d.group_by_clock) clock) o) None ≡ option_and_then (slice_get d.group_by_clock) (unwrap_or o None)
    go None = refl
    go (Some clock) = refl

-- ---- no crossings

no-group : (o p : Option ℕ) → Admits Nothing o → differ o p ≡ false
no-group None p h = refl
no-group (Some m) p h = absurd h

own-group : (g : ℕ) (o : Option ℕ) → Admits (One g) o → differ o (Some g) ≡ false
own-group g None h = refl
own-group g (Some m) h = ap not (eq-eqb m g h)

module _ (net : Net) (domains : Domains) (to : Bit) where
  -- a bit without a next value has no crossings
  pub none-absent : next_node_of net to ≡ None → crossings_into net domains to ≡ []
  none-absent h =
      let tree : next_tree net to.sig ≡ tree_or_zero net.graph None = ap (tree_or_zero net.graph) (no-cell net to h) in
      ap (λ bs. map (λ (b : Bit). let k : Crossing = record { from = b; to = to } in k) (filter (λ b. are_async (design_of net domains) b to) bs))
      (filter-none (λ b. reads [] (next_tree net to.sig) to.at b) (bits_of_signals 0 net.graph.signals) (λ b i. ap (λ t. reads [] t to.at b) tree))

  module _ (is : IsNet net) (has : HasNextCells net) (fit : Fit net domains) (below : List Marks) (shown : ShowsGroups net domains below) (l : to.at < bit_count net.graph.signals to.sig)
      (n : Node) (next : next_node_of net to ≡ Some n) where
    cell : next_cell net.regs to.sig ≡ Some n.cell
    cell = cell-of net to n next

    among : (b : Bit) → reads [] (next_tree net to.sig) to.at b ≡ true → Admits (marks_at below n.cell) (group_of domains b)
    among b h =
        let there = (has to.sig n.cell cell).0 in
        subst (Admits (marks_at below n.cell)) (shown.1 b)
        (admitted net.graph shown.0 below n.cell (shown.2 n.cell there) [] to.at b (sym (ap (λ o. reads [] (tree_or_zero net.graph o) to.at b) cell) ∙ h))

    pub none-below : marks_at below n.cell ≡ Nothing → crossings_into net domains to ≡ []
    none-below e = none-into net is has domains fit to l n.cell cell
        (λ b h. no-group (group_of domains b) (group_of domains to) (subst (λ m. Admits m (group_of domains b)) e (among b h)))

    pub own-below : (g : ℕ) → marks_at below n.cell ≡ One g → group_of domains to ≡ Some g → crossings_into net domains to ≡ []
    own-below g e f = none-into net is has domains fit to l n.cell cell
        (λ b h. ap (differ (group_of domains b)) f ∙ own-group g (group_of domains b) (subst (λ m. Admits m (group_of domains b)) e (among b h)))

-- the crossings into a bit, from all bits that it reads
pub into-all : (net : Net) (domains : Domains) (to : Bit) → IsNet net → HasNextCells net → Fit net domains → to.at < bit_count net.graph.signals to.sig
    → crossings_from domains to (bits_read_by net [] to) ≡ crossings_into net domains to
into-all net domains to is has fit l = go (next_cell net.regs to.sig) refl
  where
    go : (o : Option CellId) → next_cell net.regs to.sig ≡ o → crossings_from domains to (bits_read_by net [] to) ≡ crossings_into net domains to
    go (Some c) e = into-is net is has domains fit to l c e
    go None e =
        let nothing : bits_read_by net [] to ≡ [] =
        filter-none (λ b. reads [] (next_tree net to.sig) to.at b) (bits_of_signals 0 net.graph.signals) (λ b i. ap (λ o. reads [] (tree_or_zero net.graph o) to.at b) e) in
        ap (λ bs. map (λ (b : Bit). let k : Crossing = record { from = b; to = to } in k) (filter (λ b. differ (group_of domains b) (group_of domains to)) bs)) nothing
        ∙ sym (ap (λ bs. map (λ (b : Bit). let k : Crossing = record { from = b; to = to } in k) (filter (λ b. are_async (design_of net domains) b to) bs)) nothing)

-- ---- refusals

pub cause-map : (number : ℕ) {P Q : Type 0} (s : Stop) → (P → Q) → HasCause number P s → HasCause number Q s
cause-map number (Refused fault) f h = (h.0, f h.1)
cause-map number Memory f h = tt

pub if_err : {T E : Type 0} {P Q : E → Type 0} (r : Result T E) → ((e : E) → P e → Q e) → IfErr r P → IfErr r Q
if_err (Ok t) f h = tt
if_err (Err e) f h = f e h

-- ---- bit by bit

module _ (net : Net) (domains : Domains) (all ks : List Crossing) (bits : List Bit) (k : ℕ) (d : Bit) (lt : k < length bits) (e : all ≡ ks ++ crossings_among net domains (drop k bits)) where
  -- with the crossings into one bit more
  pub among-more : (new : List Crossing) → new ≡ ks ++ crossings_into net domains (get_or bits k d) → all ≡ new ++ crossings_among net domains (drop (k + 1) bits)
  among-more new n =
      e ∙ ap (λ xs. ks ++ crossings_among net domains xs) (drop_more bits k d lt)
      ∙ sym (append_assoc ks (crossings_into net domains (get_or bits k d)) (crossings_among net domains (drop (k + 1) bits)))
      ∙ ap (λ xs. xs ++ crossings_among net domains (drop (k + 1) bits)) (sym n)

  -- all are no fewer than those that are there and those into the bit
  pub among-over : (n : ℕ) → n < length (ks ++ crossings_into net domains (get_or bits k d)) → n < length all
  among-over n h =
      let f = ap length (among-more (ks ++ crossings_into net domains (get_or bits k d)) refl) in
      let g = length-append (ks ++ crossings_into net domains (get_or bits k d)) (crossings_among net domains (drop (k + 1) bits)) in
      omega arith

-- each bit of the registers lies in its signal
pub bit-within : (net : Net) (bits : List Bit) (k : ℕ) (d : Bit) → bits ≡ bits_of_registers net.graph.signals net.regs → k < length bits
    → (get_or bits k d).at < bit_count net.graph.signals (get_or bits k d).sig
bit-within net bits k d e lt = (from_registers net.graph.signals net.regs (get_or bits k d) (subst (λ bs. Contains bs (get_or bits k d)) e (Contains-get_or bits k d lt))).3

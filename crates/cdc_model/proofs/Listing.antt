-- A verdict is listed in one way.
use Rattle.std.proofs.Common.{◌≡◌, ℕ, Bool, true, Some, List, [], ◌∷◌, ◌++◌, map, Contains, refl, sym, ap, ap₂, subst, ◌∙◌, false}
use mathlib.Core.Path.{fun_ext}
use Rattle.cdc_base.specs.declared.bit.Bit.{Bit}
use Rattle.cell_graph.specs.declared.cell.Cell.TheVariants.{Var}
use Rattle.cell_graph.specs.declared.cell.CellId.{CellId}
use Rattle.cell_graph.specs.declared.cell.Node.{Node}
use Rattle.cell_graph.specs.declared.net.Net.{Net}
use Rattle.cell_graph.specs.Cells.{Cells, cell_at}
use Rattle.cell_graph.specs.Feeds.{feeds_of}
use Rattle.domains.specs.declared.Domains.{Domains}
use Rattle.cdc_model.specs.declared.scheme.GrayReg.{GrayReg}
use Rattle.cdc_model.specs.declared.scheme.Ring.{Ring as RingEntry}
use Rattle.cdc_model.specs.declared.scheme.Arrival.{Arrival}
use Rattle.cdc_model.specs.declared.verdict.Finding.{Finding as FindingEntry}
use Rattle.cdc_model.specs.declared.verdict.Finding.TheVariants as entry
use Rattle.cdc_model.specs.declared.verdict.Verdict.{Verdict as VerdictEntry}
use Rattle.cdc_model.specs.Design.{Design}
use Rattle.cdc_model.specs.Listed.{ring_entry, node_reads, IsFirstReading, IsNodePath, IsPathOf, IsEntry, AreEntries, IsListed, IsVerdictOf}
use Rattle.cdc_model.specs.Nets.{design_of, net_trees}
use Rattle.cdc_model.specs.Schemes.{Trees, IsSync, Sync, Ring, ring_bits}
use Rattle.cdc_model.specs.Verdict.{bit_key, sync_key, Finding, V1, V2, V3, V4, V5, V6, V7, V8, IsReadArrival, Verdict, IsVerdict}
use Rattle.cdc_model.specs.declared.scheme.Load.{Load}
use Rattle.cdc_model.proofs.Ascending.{here, later}
use Rattle.cdc_model.proofs.CleanVerdict.{one_verdict}
use Rattle.cdc_model.proofs.Ordered.{one_list}

-- ---- paths

module _ (g : Cells) (b : Bit) where
  -- of a list of nodes one is the first that reads b
  first_one : (ns before after others rest : List Node) (m n : Node) → ns ≡ before ++ m ∷ after → ns ≡ others ++ n ∷ rest → node_reads g b m ≡ true → node_reads g b n ≡ true
      → ((k : Node) → Contains before k → node_reads g b k ≡ true → ⊥) → ((k : Node) → Contains others k → node_reads g b k ≡ true → ⊥) → m ≡ n
  first_one [] [] after others rest m n e f h k p q = cc
  first_one [] (x ∷ xs) after others rest m n e f h k p q = cc
  first_one (x ∷ xs) [] after [] rest m n e f h k p q = cc
  first_one (x ∷ xs) [] after (z ∷ zs) rest m n e f h k p q = let same : m ≡ z = cc in absurd (q z (here z zs) (subst (λ (a : Node). node_reads g b a ≡ true) same h))
  first_one (x ∷ xs) (y ∷ ys) after [] rest m n e f h k p q = let same : n ≡ y = cc in absurd (p y (here y ys) (subst (λ (a : Node). node_reads g b a ≡ true) same k))
  first_one (x ∷ xs) (y ∷ ys) after (z ∷ zs) rest m n e f h k p q = first_one xs ys after zs rest m n (cc) (cc) h k (λ a i. p a (later y ys a i)) (λ a i. q a (later z zs a i))

  one_feed : (ns : List Node) (m n : Node) → IsFirstReading g b ns m → IsFirstReading g b ns n → m ≡ n
  one_feed ns m n h k = first_one ns h.0 h.1 k.0 k.1 m n h.2 k.2 h.3 k.3 h.4 k.4

  no_feed : (ns : List Node) (m : Node) → ns ≡ [] → IsFirstReading g b ns m → ⊥
  no_feed ns m e ([], after, f, r, none) = cc
  no_feed ns m e (x ∷ xs, after, f, r, none) = cc

  ends : (n m : Node) → cell_at g n.cell ≡ Var b.sig → IsFirstReading g b (feeds_of g (cell_at g n.cell) n.at) m → ⊥
  ends n m e h = no_feed (feeds_of g (cell_at g n.cell) n.at) m (ap (λ c. feeds_of g c n.at) e) h

  one_walk : (n : Node) (ns ms : List Node) → IsNodePath g b (n ∷ ns) → IsNodePath g b (n ∷ ms) → ns ≡ ms
  one_walk n [] [] h k = refl
  one_walk n [] (m ∷ ms) h k = absurd (ends n m h.0 k.0)
  one_walk n (m ∷ ns) [] h k = absurd (ends n m k.0 h.0)
  one_walk n (m ∷ ns) (l ∷ ms) h k =
      let same = one_feed (feeds_of g (cell_at g n.cell) n.at) m l h.0 k.0 in
      ap₂ (λ a more. a ∷ more) same (one_walk m ns ms h.1 (subst (λ (a : Node). IsNodePath g b (a ∷ ms)) (sym same) k.1))

some_same : (c e : CellId) → Some c ≡ Some e → c ≡ e
some_same c e h = cc

one_path : (net : Net) (b x : Bit) (p q : List Node) → IsPathOf net b x p → IsPathOf net b x q → p ≡ q
one_path net b x p q h k =
    let cells = some_same h.start.0.cell k.start.0.cell (sym h.start.1 ∙ k.start.1) in
    let starts : h.start.0 ≡ k.start.0 = ap₂ (λ (c : CellId) (i : ℕ). record { cell = c; at = i }) cells (h.start.2 ∙ sym k.start.2) in
    h.start.3.1 ∙ ap₂ (λ n ns. n ∷ ns) starts (one_walk net.graph b h.start.0 h.start.3.0 k.start.3.0
    (subst (IsNodePath net.graph b) h.start.3.1 h.walk)
    (subst (λ (n : Node). IsNodePath net.graph b (n ∷ k.start.3.0)) (sym starts) (subst (IsNodePath net.graph b) k.start.3.1 k.walk)))
    ∙ sym k.start.3.1

-- ---- findings

module _ (net : Net) (d : Design) (t : Trees) (syncs : List Sync) where
  with_paths : (make : List Node → FindingEntry) (b x : Bit) (e f : FindingEntry)
      → ((p : List Node) × IsPathOf net b x p × (e ≡ make p)) → ((p : List Node) × IsPathOf net b x p × (f ≡ make p)) → e ≡ f
  with_paths make b x e f h k = h.2 ∙ ap make (one_path net b x h.0 k.0 h.1 k.1) ∙ sym k.2

  one_entry : (f : Finding) (e o : FindingEntry) → IsEntry net d t syncs f e → IsEntry net d t syncs f o → e ≡ o
  one_entry (V1 b x) e o h k = with_paths (entry.V1 b x) b x e o h k
  one_entry (V2 b x) e o h k = with_paths (entry.V2 b x) b x e o h k
  one_entry (V3 w g) e o h k = h ∙ sym k
  one_entry (V4 b g) e o h k = h ∙ sym k
  one_entry (V5 w g) e o h k = h ∙ sym k
  one_entry (V6 x g) e o h k = h.2 ∙ ap (entry.V6 x g) (one_list (λ (a : Arrival). bit_key a.bit []) (IsReadArrival d t syncs x g) h.0 k.0 h.1 k.1) ∙ sym k.2
  one_entry (V7 b x n) e o h k = with_paths (entry.V7 b x n) b x e o h k
  one_entry (V8 b x n) e o h k = with_paths (entry.V8 b x n) b x e o h k

  one_entries : (fs : List Finding) (es os : List FindingEntry) → AreEntries net d t syncs fs es → AreEntries net d t syncs fs os → es ≡ os
  one_entries [] [] [] h k = refl
  one_entries [] [] (o ∷ os) h k = absurd k
  one_entries [] (e ∷ es) os h k = absurd h
  one_entries (f ∷ fs) [] os h k = absurd h
  one_entries (f ∷ fs) (e ∷ es) [] h k = absurd k
  one_entries (f ∷ fs) (e ∷ es) (o ∷ os) h k = ap₂ (λ a more. a ∷ more) (one_entry f e o h.0 k.0) (one_entries fs es os h.1 k.1)

pub one_listing : (net : Net) (d : Design) (t : Trees) (is_extra : Bit → Bit → Bool) (syncs others : List Sync) (loads more : List Load) (v w : Verdict) (e o : VerdictEntry)
    → IsVerdict d t is_extra syncs loads v → IsVerdict d t is_extra others more w → IsListed net d t syncs v e → IsListed net d t others w o → e ≡ o
one_listing net d t is_extra syncs others loads more v w e o h k l m =
    let same = one_verdict d t is_extra syncs others loads more v w h k in
    let chains : others ≡ syncs = one_list sync_key (IsSync d t) others syncs k.all_syncs h.all_syncs in
    equal (l.crossings ∙ same.0 ∙ sym m.crossings) (l.grays ∙ same.1 ∙ sym m.grays) (l.rings ∙ ap (map ring_entry) same.2 ∙ sym m.rings) (l.covers ∙ same.3 ∙ sym m.covers)
    (one_entries net d t syncs v.findings e.findings o.findings l.findings
    (subst (λ (fs : List Finding). AreEntries net d t syncs fs o.findings) (sym same.4) (subst (λ (ss : List Sync). AreEntries net d t ss w.findings o.findings) chains m.findings)))
  where
    equal : e.crossings ≡ o.crossings → e.grays ≡ o.grays → e.rings ≡ o.rings → e.covers ≡ o.covers → e.findings ≡ o.findings → e ≡ o
    equal a b c f g = ap (λ xs. record e { crossings = xs }) a
        ∙ ap (λ xs. record e { crossings = o.crossings; grays = xs }) b
        ∙ ap (λ xs. record e { crossings = o.crossings; grays = o.grays; rings = xs }) c
        ∙ ap (λ xs. record o { covers = xs; findings = e.findings }) f
        ∙ ap (λ xs. record o { findings = xs }) g

-- ---- verdicts of nets

same_test : (u v : Bool) → (u ≡ true → v ≡ true) → (v ≡ true → u ≡ true) → u ≡ v
same_test true true f g = refl
same_test true false f g = sym (f refl)
same_test false true f g = g refl
same_test false false f g = refl

pub one_net_verdict : (net : Net) (domains : Domains) (is_extra : Bit → Bit → Bool) (e o : VerdictEntry) → IsVerdictOf net domains is_extra e → IsVerdictOf net domains is_extra o → e ≡ o
one_net_verdict net domains is_extra e o v w = one_listing net (design_of net domains) (net_trees net v.grays) is_extra v.syncs w.syncs v.loads w.loads v.verdict w.verdict e o v.is_verdict
    (subst (λ (t : GrayReg → Bool). IsVerdict (design_of net domains) (net_trees net t) is_extra w.syncs w.loads w.verdict) same w.is_verdict)
    v.is_listed (subst (λ (t : GrayReg → Bool). IsListed net (design_of net domains) (net_trees net t) w.syncs w.verdict o) same w.is_listed)
  where
    same : w.grays ≡ v.grays
    same = fun_ext (λ g. same_test (w.grays g) (v.grays g) (λ h. (v.finds g).1 ((w.finds g).0 h)) (λ h. (w.finds g).1 ((v.finds g).0 h)))

no_findings : (net : Net) (d : Design) (t : Trees) (syncs : List Sync) (fs : List Finding) (es : List FindingEntry) → AreEntries net d t syncs fs es → es ≡ [] → fs ≡ []
no_findings net d t syncs [] es h e = refl
no_findings net d t syncs (f ∷ fs) [] h e = absurd h
no_findings net d t syncs (f ∷ fs) (x ∷ es) h e = cc

-- the verdict that is listed without findings has none
pub clean_listed : (net : Net) (d : Design) (t : Trees) (syncs : List Sync) (v : Verdict) (e : VerdictEntry) → IsListed net d t syncs v e → e.findings ≡ [] → v.findings ≡ []
clean_listed net d t syncs v e h clean = no_findings net d t syncs v.findings e.findings h.findings clean

all_bits : (rs : List Ring) → map (λ (r : RingEntry). r.bits) (map ring_entry rs) ≡ map ring_bits rs
all_bits [] = refl
all_bits (r ∷ rs) = ap (λ xs. ring_bits r ∷ xs) (all_bits rs)

-- the rings that are listed have the bits of the verdict's
pub listed_bits : (net : Net) (d : Design) (t : Trees) (syncs : List Sync) (v : Verdict) (e : VerdictEntry) → IsListed net d t syncs v e → map (λ (r : RingEntry). r.bits) e.rings ≡ map ring_bits v.rings
listed_bits net d t syncs v e h = ap (map (λ (r : RingEntry). r.bits)) h.rings ∙ all_bits v.rings

-- Chains of flops, the marks of their signals, and the list of synchronizers crossing by crossing.
use Rattle.std.proofs.Common.{◌≡◌, ◌∙◌, inr, inl, refl, sym, ap, ap₂, subst, arith, ℕ, zero, suc, ◌+◌, ◌-◌, ◌<◌, ◌≤◌, ◌&&◌, nat_lt, ltb-true, lt-ltb, Bool, true, false, cond, Option, Some, None, is_some, List, [], ◌∷◌, ◌++◌, map, length, drop, get_or, slice_get, append_assoc, Contains}
use Rattle.std.specs.Option.{option_map_or}
use Rattle.std.proofs.lemmas.Bool.{and_parts, and_from, cases_lt, le-ltb}
use Rattle.std.proofs.lemmas.List.{drop_more, append-nil, map-append}
use Rattle.std.proofs.lemmas.Option.{slice_get_within, slice_get-get_or}
use Rattle.cdc_base.specs.declared.bit.Bit.{Bit}
use Rattle.cell_graph.specs.declared.net.Net.{Net}
use Rattle.domains.specs.declared.Domains.{Domains}
use Rattle.domains.specs.Assignment.{clock_of}
use Rattle.domains.specs.Nets.{IsNet}
use Rattle.cdc_model.specs.declared.scheme.Crossing.{Crossing}
use Rattle.cdc_model.specs.declared.scheme.Sync.{Sync as SyncEntry}
use Rattle.cdc_model.specs.declared.readers.Reader.TheVariants.{Alone}
use Rattle.cdc_model.specs.Design.{settle_by, settle_of}
use Rattle.cdc_model.specs.Found.{crossings_of}
use Rattle.cdc_model.specs.Listed.{sync_entry}
use Rattle.cdc_model.specs.Nets.{next_cell, bit_count, bits_of_registers, is_within, is_register_bit, design_of, settle_on, settle_at}
use Rattle.cdc_model.specs.Readers.{IsStateBit, IsMarked, Kept, reader_at, readers_of}
use Rattle.cdc_model.specs.Schemes.{flops}
use Rattle.cdc_model.specs.Syncs.{copies, on_one_clock, copy_among, next_flop, flops_behind, sync_of, is_sync, syncs_from, syncs_among}
use Rattle.cdc_model.proofs.Found.{counted, crossings_are_all, net_ascends}
use Rattle.cdc_model.proofs.NetDesign.{in_bits}
use Rattle.cdc_model.proofs.Synced.{register_state, next_copies}
use Rattle.two_flop.specs.Flops.{EndInRegisters, IsReached, AreKept}

-- ---- bits of registers

pub bit_inside : (net : Net) (b : Bit) → is_register_bit net b ≡ true → b.at < bit_count net.graph.signals b.sig
bit_inside net b h = ltb-true b.at (bit_count net.graph.signals b.sig) (and_parts (is_some (next_cell net.regs b.sig)) (is_within net b) h).1

pub signal_there : (net : Net) (b : Bit) → is_register_bit net b ≡ true → b.sig < length net.graph.signals
signal_there net b h = let w = counted net.graph.signals b.sig b.at (bit_inside net b h) in slice_get_within net.graph.signals b.sig w.0 w.1

pub register_listed : (net : Net) (b : Bit) → is_register_bit net b ≡ true → Contains (bits_of_registers net.graph.signals net.regs) b
register_listed net b h = in_bits net.graph.signals b (bit_inside net b h) net.regs (and_parts (is_some (next_cell net.regs b.sig)) (is_within net b) h).0

pub settle_is : (net : Net) (domains : Domains) (b : Bit) → is_register_bit net b ≡ true → settle_at domains (clock_of domains b) ≡ settle_of (design_of net domains) b
settle_is net domains b h = sym (ap (λ v. settle_by (settle_on domains) (cond v (clock_of domains b) None)) (and_parts (is_some (next_cell net.regs b.sig)) (is_within net b) h).1)

-- all crossings of a net end in register bits
pub ends_are : (net : Net) (domains : Domains) → IsNet net → (ks : List Crossing) → ks ≡ crossings_of net domains → EndInRegisters net ks
ends_are net domains is ks e k i = ((crossings_are_all net domains (λ g. false) (net_ascends net is)).only k (subst (λ xs. Contains xs k) e i)).register

-- ---- one item more of a list

pub one_more : {A P : Type 0} (xs : List A) (idx i : ℕ) (d k : A) → idx < length xs → i < idx + 1 → slice_get xs i ≡ Some k → (i < idx → P) → (get_or xs idx d ≡ k → P) → P
one_more xs idx i d k lt l at before now = elim (cases_lt i idx) [
  | inl m ↦ before m
  | inr m ↦ now (same (slice_get xs idx) (get_or xs idx d) k (slice_get-get_or xs idx d lt) (subst (λ (n : ℕ). slice_get xs n ≡ Some k) (let e : i ≡ idx = omega arith in e) at))
]
  where
    same : {A : Type 0} (o : Option A) (x y : A) → o ≡ Some x → o ≡ Some y → x ≡ y
    same o x y e f = cc

-- ---- flops that are reached

reached_more : (net : Net) (ks : List Crossing) (d m t : ℕ) → d + m ≡ t → (x : Bit) → IsReached net ks m x → IsReached net ks t x
reached_more net ks zero m t e x h = subst (λ n. IsReached net ks n x) (let f : m ≡ t = omega arith in f) h
reached_more net ks (suc d) m zero e x h = absurd (omega arith)
reached_more net ks (suc d) m (suc t) e x h = inl (reached_more net ks d m t (omega arith) x h)

-- marks that leave out no flop make the readers of a chain's flops known
pub chain_kept : (net : Net) (domains : Domains) → IsNet net → (ks : List Crossing) (marks : List (Option ℕ)) (kept : Kept)
    → ((x : Bit) → IsReached net ks 3 x → IsMarked marks x.sig) → ((b : Bit) → IsStateBit net.graph.signals b → IsMarked marks b.sig → reader_at kept b ≡ readers_of net b)
    → (n m : ℕ) → n + m ≡ 3 → (f : Bit) → is_register_bit net f ≡ true → IsReached net ks m f → AreKept net domains kept n f
chain_kept net domains is ks marks kept marked exact zero m e f reg h = tt
chain_kept net domains is ks marks kept marked exact (suc n) m e f reg h = (
  exact f (register_state net is f reg) (marked f (reached_more net ks (suc n) m 3 e f h)),
  λ g next.
      let c = next_copies net domains is f g next in
      chain_kept net domains is ks marks kept marked exact n (suc m) (omega arith) g c.0 (inr (f, h, c.0, c.1)),
)

-- ---- chains

-- the one reader that copies the flop on its clock is the next flop
pub next_found : (net : Net) (domains : Domains) (f g : Bit) → readers_of net f ≡ Alone g → copies net g f ≡ true → on_one_clock domains g f ≡ true → Some g ≡ next_flop net domains f
next_found net domains f g e copy clock = sym (ap (copy_among net domains f) e ∙ ap (λ v. cond v (Some g) None) (and_from (copies net g f) (on_one_clock domains g f) copy clock))

pub next_no_copy : (net : Net) (domains : Domains) (f g : Bit) → readers_of net f ≡ Alone g → copies net g f ≡ false → None ≡ next_flop net domains f
next_no_copy net domains f g e copy = sym (ap (copy_among net domains f) e ∙ ap (λ v. cond (v && on_one_clock domains g f) (Some g) None) copy)

module _ (net : Net) (domains : Domains) (kept : Kept) (whole fs : List Bit) (k : ℕ) (l : k < 3) (last : Bit) where
  left : 3 - k ≡ suc (3 - (k + 1))
  left = omega arith

  rest : flops_behind net domains (3 - k) last ≡ option_map_or (λ (g : Bit). g ∷ flops_behind net domains (3 - (k + 1)) g) (next_flop net domains last) []
  rest = ap (λ n. flops_behind net domains n last) left

  -- who reads the last flop is kept
  pub last_kept : AreKept net domains kept (3 - k) last → reader_at kept last ≡ readers_of net last
  last_kept h = (subst (λ n. AreKept net domains kept n last) left h).0

  pub next_kept : (next : Bit) → next_flop net domains last ≡ Some next → AreKept net domains kept (3 - k) last → AreKept net domains kept (3 - (k + 1)) next
  next_kept next e h = (subst (λ n. AreKept net domains kept n last) left h).1 next e

  -- one flop more
  pub chain_more : (next : Bit) → next_flop net domains last ≡ Some next → whole ≡ fs ++ flops_behind net domains (3 - k) last → whole ≡ (fs ++ next ∷ []) ++ flops_behind net domains (3 - (k + 1)) next
  chain_more next e w =
      w ∙ ap (λ xs. fs ++ xs) (rest ∙ ap (λ o. option_map_or (λ (g : Bit). g ∷ flops_behind net domains (3 - (k + 1)) g) o []) e)
      ∙ sym (append_assoc fs (next ∷ []) (flops_behind net domains (3 - (k + 1)) next))

  -- no flop more
  pub chain_ends : next_flop net domains last ≡ None → whole ≡ fs ++ flops_behind net domains (3 - k) last → fs ≡ whole
  chain_ends e w = sym (w ∙ ap (λ xs. fs ++ xs) (rest ∙ ap (λ o. option_map_or (λ (g : Bit). g ∷ flops_behind net domains (3 - (k + 1)) g) o []) e) ∙ append-nil fs)

-- four flops
pub chain_full : (net : Net) (domains : Domains) (whole fs : List Bit) (k : ℕ) (last : Bit) → 3 ≤ k → whole ≡ fs ++ flops_behind net domains (3 - k) last → fs ≡ whole
chain_full net domains whole fs k last l w = sym (w ∙ ap (λ n. fs ++ flops_behind net domains n last) (let e : 3 - k ≡ 0 = omega arith in e) ∙ append-nil fs)

-- ---- synchronizers

module _ (net : Net) (domains : Domains) (k : Crossing) (old : List SyncEntry) where
  -- there are enough flops
  pub one_added : (fs : List Bit) (new : List SyncEntry) → copies net k.to k.from ≡ true → fs ≡ k.to ∷ flops_behind net domains 3 k.to → settle_of (design_of net domains) k.to < length fs
      → new ≡ old ++ record { from = k.from; flops = fs } ∷ [] → new ≡ old ++ map sync_entry (syncs_from net domains k)
  one_added fs new copy e l n =
      n ∙ ap (λ xs. let s : SyncEntry = record { from = k.from; flops = xs } in old ++ s ∷ []) e
      ∙ ap (λ v. old ++ map sync_entry (cond v (sync_of net domains k ∷ []) []))
      (sym (ap₂ (λ u v. u && v) copy (lt-ltb (settle_of (design_of net domains) k.to) (length (k.to ∷ flops_behind net domains 3 k.to)) (subst (λ xs. settle_of (design_of net domains) k.to < length xs) e l))))

-- one crossing more
pub syncs_more : (net : Net) (domains : Domains) (all old new : List SyncEntry) (ks : List Crossing) (i : ℕ) (d : Crossing) → i < length ks
    → all ≡ old ++ map sync_entry (syncs_among net domains (drop i ks)) → new ≡ old ++ map sync_entry (syncs_from net domains (get_or ks i d))
    → all ≡ new ++ map sync_entry (syncs_among net domains (drop (i + 1) ks))
syncs_more net domains all old new ks i d l e n =
    e ∙ ap (λ xs. old ++ map sync_entry (syncs_among net domains xs)) (drop_more ks i d l)
    ∙ ap (λ xs. old ++ xs) (map-append sync_entry (syncs_from net domains (get_or ks i d)) (syncs_among net domains (drop (i + 1) ks)))
    ∙ sym (append_assoc old (map sync_entry (syncs_from net domains (get_or ks i d))) (map sync_entry (syncs_among net domains (drop (i + 1) ks))))
    ∙ ap (λ xs. xs ++ map sync_entry (syncs_among net domains (drop (i + 1) ks))) (sym n)

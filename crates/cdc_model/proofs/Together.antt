-- What meets behind synchronizers belongs to one moment: the proof.
use Rattle.std.proofs.Common.{◌≡◌, ℕ, zero, suc, ◌+◌, ◌<◌, ◌≤◌, nat_lt, Bool, true, false, cond, ◌&&◌, Option, Some, None, List, [], Contains, ◌⊎◌, inl, inr, refl, sym, ap, subst, ◌∙◌, eq-eqb, arith, ltb-true, ltb-false}
use Rattle.std.specs.List.{list_any}
use Rattle.std.proofs.lemmas.Bool.{both_ways, and_parts, and_from}
use Rattle.std.proofs.lemmas.List.Folds.{Any-from_list_any, list_any-from_Any}
use Rattle.cdc_base.specs.declared.bit.Bit.{Bit}
use Rattle.cell_graph.specs.Reading.{Reading}
use Rattle.cdc_model.specs.Design.{Design, word, group, are_equal, settle_by, settle_of, is_behind}
use Rattle.cdc_model.specs.Runs.{State, Trace, Start, Then, now, is_in, IsRun, around}
use Rattle.cdc_model.specs.declared.scheme.GrayReg.{GrayReg}
use Rattle.cdc_model.specs.declared.scheme.Load.{Load}
use Rattle.cdc_model.specs.Schemes.{Trees, AreTrees, Sync, Ring, Justified}
use Rattle.cdc_model.specs.Facts.{OnlySettling, TakeWord, AreJustifiedBy}
use Rattle.cdc_model.specs.Together.{Reads, IsTogether, OneFamily}
use Rattle.cdc_model.proofs.Flips.{one_bit}
use Rattle.cdc_model.proofs.Chain.{equal_eq, copy_takes}
use Rattle.cdc_model.proofs.Behind.{next_behind, behind_clock, behind_register, behind_unique, at_behind, behind_at}
use Rattle.cdc_model.proofs.Whole.{facts_now, whole_run}

module _ (d : Design) (t : Trees) (laws : AreTrees d t) (syncs : List Sync) (grays : List GrayReg) (rings : List Ring) (loads : List Load) (is_extra : Bit → Bit → Bool)
    (ok : Justified d t syncs grays rings loads is_extra) (keeps : State → Type 0) (extra : AreJustifiedBy d syncs grays rings is_extra keeps) where
  -- the arrivals at one depth, of one clock and word, have it as it was
  abbrev ArriveWord : (clock word depth : ℕ) → Reading → Reading → Type 0
  ArriveWord c word n taken source = (s : Sync) (y : Bit) → Contains syncs s → d.clock s.first ≡ Some c → s.from.sig ≡ word → is_behind d s.first n y ≡ true → taken y ≡ source s.from

  -- what is behind the last settling flop is settled when the next flop takes it
  one_left : (s : Sync) → Contains syncs s → (st : State) → OnlySettling d syncs st → (n : ℕ) (z : Bit) → settle_of d s.first ≤ suc n → is_behind d s.first n z ≡ true → st.left z ≤ 1
  one_left s i st only n z l h = go (st.left z) refl
    where
      go : (m : ℕ) → st.left z ≡ m → st.left z ≤ 1
      go zero e = omega arith
      go (suc zero) e = omega arith
      go (suc (suc m)) e =
          let (r, k, p) = only z (omega arith) in
          let u = behind_unique d t laws syncs ok.are_syncs s r i k n p.0 z h (at_behind d t laws syncs ok.are_syncs r k p.0 z p.1) in
          let f : settle_of d s.first ≡ settle_of d r.first = ap (settle_of d) u.1 in
          let g : p.0 + st.left z ≤ settle_of d r.first = p.2 in
          let v : n ≡ p.0 = u.0 in
          omega arith

  -- what arrives is whole at each depth
  arrive_whole : (run : Trace) → IsRun d run → (c word n : ℕ) (before after : State) → around c n run ≡ Some (before, after)
      → ArriveWord c word n (now run).values before.values ⊎ ArriveWord c word n (now run).values after.values
  arrive_whole (Start s) run c word n before after a = cc
  arrive_whole (Then past edges new) run c word n before after a = by_depth (λ m b. arrive_whole past run.0 c word m before after b) (nat_lt n (d.settle c)) refl
    where
      settle_is : (s : Sync) → d.clock s.first ≡ Some c → settle_of d s.first ≡ d.settle c
      settle_is s e = ap (settle_by d.settle) e

      settling : n < d.settle c → ArriveWord c word n new.values before.values ⊎ ArriveWord c word n new.values after.values
      settling l = elim (whole_run d t laws syncs grays rings loads is_extra ok keeps extra (Then past edges new) run c word n before after l a) [
        | inl h ↦ inl (by_place before.values h)
        | inr h ↦ inr (by_place after.values h)
      ]
        where
          by_place : (source : Reading) → TakeWord d syncs c word n new.values source → ArriveWord c word n new.values source
          by_place source h s y i e w b =
              let m : settle_of d s.first ≡ d.settle c = settle_is s e in
              h s y i e w (behind_at d t laws syncs ok.are_syncs s i n y (omega arith) b)

      -- without a tick all stays
      waited : edges c ≡ false → ArriveWord c word n (now past).values before.values ⊎ ArriveWord c word n (now past).values after.values
          → ArriveWord c word n new.values before.values ⊎ ArriveWord c word n new.values after.values
      waited k h = elim h [ inl f ↦ inl (stays before.values f) | inr f ↦ inr (stays after.values f) ]
        where
          stays : (source : Reading) → ArriveWord c word n (now past).values source → ArriveWord c word n new.values source
          stays source f s y i e w b =
              (run.1.held y (behind_register d t laws syncs ok.are_syncs s i n y b) (ap (λ o. is_in o edges) (behind_clock d s.first n y b ∙ e) ∙ k)).0 ∙ f s y i e w b

      -- each takes what the one before had
      ticked : edges c ≡ true → (m : ℕ) → n ≡ suc m → d.settle c ≤ n → ArriveWord c word m (now past).values before.values ⊎ ArriveWord c word m (now past).values after.values
          → ArriveWord c word n new.values before.values ⊎ ArriveWord c word n new.values after.values
      ticked k m is l h = elim h [ inl f ↦ inl (moves before.values f) | inr f ↦ inr (moves after.values f) ]
        where
          only : OnlySettling d syncs (now past)
          only = (facts_now d t laws syncs grays rings loads is_extra ok keeps extra past run.0).settled

          moves : (source : Reading) → ArriveWord c word m (now past).values source → ArriveWord c word n new.values source
          moves source f s y i e w b =
              let q = next_behind d s.first m y (subst (λ (x : ℕ). is_behind d s.first x y ≡ true) is b) in
              let z = q.2.0 in
              let size : settle_of d s.first ≡ d.settle c = settle_is s e in
              let one : (now past).left q.2.0 ≤ 1 = one_left s i (now past) only m q.2.0 (omega arith) q.2.2 in
              ((copy_takes d t laws syncs ok.are_syncs edges (now past) new run.1 only y q.2.0 q.0 (ap (λ o. is_in o edges) (q.1 ∙ e) ∙ k) q.2.1 (behind_clock d s.first m q.2.0 q.2.2 ∙ sym q.1)).0 one).0
              ∙ f s q.2.0 i e w q.2.2

      by_tick : ((m : ℕ) → around c m past ≡ Some (before, after) → ArriveWord c word m (now past).values before.values ⊎ ArriveWord c word m (now past).values after.values)
          → (x : ℕ) → n ≡ x → d.settle c ≤ n → (v : Bool) → edges c ≡ v → around c x (Then past edges new) ≡ Some (before, after)
          → ArriveWord c word n new.values before.values ⊎ ArriveWord c word n new.values after.values
      by_tick earlier zero is l v k b = let p : 1 ≤ d.settle c = (laws.settles c).0 in absurd (omega arith)
      by_tick earlier (suc m) is l true k b =
          ticked k m is l (earlier m (sym (ap (λ v. cond v (around c m past) (around c (suc m) past)) k) ∙ b))
      by_tick earlier (suc m) is l false k b =
          waited k (earlier n (ap (λ x. around c x past) is ∙ sym (ap (λ v. cond v (around c m past) (around c (suc m) past)) k) ∙ b))

      by_depth : ((m : ℕ) → around c m past ≡ Some (before, after) → ArriveWord c word m (now past).values before.values ⊎ ArriveWord c word m (now past).values after.values)
          → (v : Bool) → nat_lt n (d.settle c) ≡ v → ArriveWord c word n new.values before.values ⊎ ArriveWord c word n new.values after.values
      by_depth earlier true l = settling (ltb-true n (d.settle c) l)
      by_depth earlier false l = by_tick earlier n refl (ltb-false n (d.settle c) l) (edges c) refl a

  module _ (family : OneFamily d t syncs) where
    -- what x reads of one group at one depth is of one word, and entered one group
    one_word : (x : Bit) → d.is_register x ≡ true → (g n : ℕ) (s r : Sync) (y z : Bit) → Reads d t syncs x g n s y → Reads d t syncs x g n r z
        → (s.from.sig ≡ r.from.sig) × (group d s.first ≡ group d r.first)
    one_word x reg g n s r y z h k = go (d.copied x) refl
      where
        go : (o : Option Bit) → d.copied x ≡ o → (s.from.sig ≡ r.from.sig) × (group d s.first ≡ group d r.first)
        go None e = family.one_family x g n n s r y z reg e h k
        go (Some b) e =
            let copy : t.same [] x ≡ Some b = sym (laws.copied x reg) ∙ e in
            let same : z ≡ y = laws.same_only [] x b z reg copy k.reads ∙ sym (laws.same_only [] x b y reg copy h.reads) in
            let first : s.first ≡ r.first = (behind_unique d t laws syncs ok.are_syncs s r h.sync k.sync n n y h.arrival (subst (λ (a : Bit). is_behind d r.first n a ≡ true) same k.arrival)).1 in
            let from : s.from ≡ r.from = one_bit s.from r.from (d.copied s.first) (ok.are_syncs s h.sync).copy (ap d.copied first ∙ (ok.are_syncs r k.sync).copy) in
            (ap (λ (a : Bit). a.sig) from, ap (group d) first)

    -- whether x reads an arrival of s
    abbrev reads_arrival : List Bit → Bit → ℕ → ℕ → ℕ → Sync → Bool
    reads_arrival bits x c g n s = are_equal (group d s.from) (Some g) && (are_equal (d.clock s.first) (Some c) && list_any (λ y. is_behind d s.first n y && t.reads [] x y) bits)

    reads_found : (bits : List Bit) (x : Bit) (c g n : ℕ) (s : Sync) → Contains syncs s → reads_arrival bits x c g n s ≡ true
        → (y : Bit) × Reads d t syncs x g n s y × (d.clock s.first ≡ Some c)
    reads_found bits x c g n s i h =
        let p = and_parts (are_equal (group d s.from) (Some g)) (are_equal (d.clock s.first) (Some c) && list_any (λ y. is_behind d s.first n y && t.reads [] x y) bits) h in
        let q = and_parts (are_equal (d.clock s.first) (Some c)) (list_any (λ y. is_behind d s.first n y && t.reads [] x y) bits) p.1 in
        let a = Any-from_list_any (λ y. is_behind d s.first n y && t.reads [] x y) bits q.1 in
        let b = and_parts (is_behind d s.first n a.1) (t.reads [] x a.1) a.4 in
        (a.1, record { sync = i; from = equal_eq (group d s.from) (Some g) p.0; arrival = b.0; reads = b.1 }, equal_eq (d.clock s.first) (Some c) q.0)

    found_reads : (bits : List Bit) (x : Bit) (c g n : ℕ) (s : Sync) (y : Bit) → Contains bits y → Reads d t syncs x g n s y → d.clock y ≡ Some c → reads_arrival bits x c g n s ≡ true
    found_reads bits x c g n s y i h e =
        and_from (are_equal (group d s.from) (Some g)) (are_equal (d.clock s.first) (Some c) && list_any (λ y. is_behind d s.first n y && t.reads [] x y) bits)
        (ap (λ o. are_equal o (Some g)) h.from ∙ eq-eqb g g refl)
        (and_from (are_equal (d.clock s.first) (Some c)) (list_any (λ y. is_behind d s.first n y && t.reads [] x y) bits)
        (ap (λ o. are_equal o (Some c)) (sym (behind_clock d s.first n y h.arrival) ∙ e) ∙ eq-eqb c c refl)
        (list_any-from_Any (λ y. is_behind d s.first n y && t.reads [] x y) bits (i.0, y, i.1, i.2, and_from (is_behind d s.first n y) (t.reads [] x y) h.arrival h.reads)))

    pub together : (run : Trace) → IsRun d run → (x : Bit) → d.is_register x ≡ true → (g n : ℕ) → IsTogether d t syncs run x g n
    together run is_run x reg g n = record {
      one_clock = λ s r y z h k.
          let w = one_word x reg g n s r y z h k in
          behind_clock d s.first n y h.arrival ∙ family.one_clock s r h.sync k.sync w.0 w.1 ∙ sym (behind_clock d r.first n z k.arrival);
      one_moment = moment;
    }
      where
        bits : List Bit
        bits = (laws.finite x).0

        moment : (c : ℕ) (before after : State) → around c n run ≡ Some (before, after)
            → ((s : Sync) (y : Bit) → Reads d t syncs x g n s y → d.clock y ≡ Some c → (now run).values y ≡ before.values s.from)
            ⊎ ((s : Sync) (y : Bit) → Reads d t syncs x g n s y → d.clock y ≡ Some c → (now run).values y ≡ after.values s.from)
        moment c before after a = go (list_any (reads_arrival bits x c g n) syncs) refl
          where
            go : (v : Bool) → list_any (reads_arrival bits x c g n) syncs ≡ v
                → ((s : Sync) (y : Bit) → Reads d t syncs x g n s y → d.clock y ≡ Some c → (now run).values y ≡ before.values s.from)
                ⊎ ((s : Sync) (y : Bit) → Reads d t syncs x g n s y → d.clock y ≡ Some c → (now run).values y ≡ after.values s.from)
            go false none = inl (λ s y h e. absurd (both_ways (list_any (reads_arrival bits x c g n) syncs) none
                (list_any-from_Any (reads_arrival bits x c g n) syncs (h.sync.0, s, h.sync.1, h.sync.2, found_reads bits x c g n s y ((laws.finite x).1 y h.reads) h e))))
            go true some =
                let (k, s, lt, at, p) = Any-from_list_any (reads_arrival bits x c g n) syncs some in
                let f = reads_found bits x c g n s (k, lt, at) p in
                elim (arrive_whole run is_run c s.from.sig n before after a) [
                  | inl h ↦ inl (by_word s f.0 f.1 before h)
                  | inr h ↦ inr (by_word s f.0 f.1 after h)
                ]
              where
                by_word : (s : Sync) (y : Bit) → Reads d t syncs x g n s y → (source : State) → ArriveWord c s.from.sig n (now run).values source.values
                    → (r : Sync) (z : Bit) → Reads d t syncs x g n r z → d.clock z ≡ Some c → (now run).values z ≡ source.values r.from
                by_word s y h source arrive r z k e =
                    arrive r z k.sync (sym (behind_clock d r.first n z k.arrival) ∙ e) (one_word x reg g n r s z y k h).0 k.arrival

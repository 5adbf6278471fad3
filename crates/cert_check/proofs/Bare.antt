-- The crossings that aren't served are those that no item and no FIFO serves.
use Rattle.std.proofs.Common.{◌≡◌, ◌∙◌, ◌↔◌, inl, inr, refl, sym, ap, ap₂, subst, arith, ℕ, suc, ◌==◌, ◌&&◌, nat_lt, ltb-true, eqb-true, Bool, true, false, List, [], ◌∷◌, ◌++◌, length, map, Contains}
use Rattle.std.proofs.lemmas.Bool.{and_parts, or_cases}
use Rattle.std.proofs.lemmas.List.Elements.{Contains-append_left, Contains-append_right, Contains-append_cases}
use Rattle.cdc_base.specs.declared.bit.Bit.{Bit}
use Rattle.cell_graph.specs.declared.net.Net.{Net}
use Rattle.domains.specs.declared.Domains.{Domains}
use Rattle.domains.specs.Nets.{IsNet}
use Rattle.cdc_model.specs.declared.scheme.Crossing.{Crossing}
use Rattle.cdc_model.specs.declared.scheme.GrayReg.{GrayReg}
use Rattle.cdc_model.specs.declared.scheme.Load.{Load}
use Rattle.cdc_model.specs.declared.scheme.Sync.{Sync as SyncEntry}
use Rattle.cdc_model.specs.Found.{crossings_of}
use Rattle.cdc_model.specs.Listed.{sync_entry}
use Rattle.cdc_model.specs.Nets.{design_of, net_trees}
use Rattle.cdc_model.specs.Ordered.{is_before, IsAscending, IsAll}
use Rattle.cdc_model.specs.Schemes.{IsCrossing, Sync}
use Rattle.cdc_model.specs.Verdict.{IsServed, crossing_key}
use Rattle.cdc_model.proofs.Ascending.{here, later, parts, nothing_in, in_map, from_map}
use Rattle.cdc_model.proofs.Found.{net_ascends, crossings_are_all}
use Rattle.cdc_model.proofs.Justify.{in_slice}
use Rattle.cdc_model.proofs.Ordered.{never_before}
use Rattle.cert_check.specs.declared.served.Passage.{Passage}
use Rattle.cert_check.specs.declared.served.Walked.TheVariants.{Bare, Served}
use Rattle.cert_check.specs.Checked.{IsFirstBare, AreServed}
use Rattle.cert_check.specs.Served.{sync_passages, load_passages, crossing_passages, passages, IsWalked}

-- ---- which crossings are served

abbrev of_sync : Sync → Passage
of_sync s = record { to = s.first; from = s.from }

module _ (b x : Bit) where
  abbrev passage : Passage
  passage = record { to = x; from = b }

  of_syncs : (ss : List Sync) → Contains (sync_passages (map sync_entry ss)) (record { to = x; from = b }) → (s : Sync) × Contains ss s × (s.from ≡ b) × (s.first ≡ x)
  of_syncs [] i = absurd (nothing_in passage i)
  of_syncs (s ∷ ss) i = elim (parts (of_sync s) (sync_passages (map sync_entry ss)) passage i) [
    | inl e ↦ (s, here s ss, ap (λ (p : Passage). p.from) e, ap (λ (p : Passage). p.to) e)
    | inr j ↦ let r = of_syncs ss j in (r.0, later s ss r.0 r.1, r.2, r.3)
  ]

  in_syncs : (ss : List Sync) (s : Sync) → Contains ss s → s.from ≡ b → s.first ≡ x → Contains (sync_passages (map sync_entry ss)) (record { to = x; from = b })
  in_syncs [] s i e f = absurd (nothing_in s i)
  in_syncs (r ∷ ss) s i e f = elim (parts r ss s i) [
    | inl same ↦
        let p : of_sync r ≡ passage =
        ap₂ (λ (u v : Bit). let q : Passage = record { to = u; from = v } in q) (ap (λ (z : Sync). z.first) same ∙ f) (ap (λ (z : Sync). z.from) same ∙ e) in
        subst (Contains (sync_passages (map sync_entry (r ∷ ss)))) p (here (of_sync r) (sync_passages (map sync_entry ss)))
    | inr j ↦ later (of_sync r) (sync_passages (map sync_entry ss)) passage (in_syncs ss s j e f)
  ]

  module _ (served : List Passage) (entries : List SyncEntry) (ss : List Sync) (listed : entries ≡ map sync_entry ss) (loads : List Load) (extra : List Crossing) (is_extra : Bit → Bit → Bool)
      (is : (p : Passage) → Contains served p ↔ Contains (passages entries loads extra) p)
      (others : (is_extra b x ≡ true) ↔ Contains extra (record { from = b; to = x })) where
    pub is_served : Contains served (record { to = x; from = b }) → IsServed ss loads is_extra b x
    is_served i = elim (Contains-append_cases (sync_passages (map sync_entry ss) ++ load_passages loads) (crossing_passages extra) passage
        (subst (λ es. Contains (passages es loads extra) passage) listed ((is passage).0 i))) [
          | inl j ↦ elim (Contains-append_cases (sync_passages (map sync_entry ss)) (load_passages loads) passage j) [
            | inl k ↦ inl (of_syncs ss k)
            | inr k ↦ let r = from_map (λ (l : Load). let p : Passage = record { to = l.to; from = l.from } in p) loads passage k in
                inr (inl (r.0, r.1, ap (λ (p : Passage). p.from) r.2, ap (λ (p : Passage). p.to) r.2))
          ]
          | inr j ↦
              let r = from_map (λ (k : Crossing). let p : Passage = record { to = k.to; from = k.from } in p) extra passage j in
              let same : r.0 ≡ record { from = b; to = x } = ap (λ (p : Passage). let k : Crossing = record { from = p.from; to = p.to } in k) r.2 in
              inr (inr (others.1 (subst (Contains extra) same r.1)))
        ]

    pub has_served : IsServed ss loads is_extra b x → Contains served (record { to = x; from = b })
    has_served h = (is passage).1 (subst (λ es. Contains (passages es loads extra) passage) (sym listed) (among h))
      where
        among : IsServed ss loads is_extra b x → Contains (passages (map sync_entry ss) loads extra) (record { to = x; from = b })
        among (inl s) = Contains-append_left (sync_passages (map sync_entry ss) ++ load_passages loads) (crossing_passages extra) passage
            (Contains-append_left (sync_passages (map sync_entry ss)) (load_passages loads) passage (in_syncs ss s.0 s.1 s.2 s.3))
        among (inr (inl l)) = Contains-append_left (sync_passages (map sync_entry ss) ++ load_passages loads) (crossing_passages extra) passage
            (Contains-append_right (sync_passages (map sync_entry ss)) (load_passages loads) passage
            (subst (Contains (load_passages loads)) (ap₂ (λ (u v : Bit). let p : Passage = record { to = u; from = v } in p) l.3 l.2)
            (in_map (λ (l : Load). let p : Passage = record { to = l.to; from = l.from } in p) loads l.0 l.1)))
        among (inr (inr e)) = Contains-append_right (sync_passages (map sync_entry ss) ++ load_passages loads) (crossing_passages extra) passage
            (in_map (λ (k : Crossing). let p : Passage = record { to = k.to; from = k.from } in p) extra (record { from = b; to = x }) (others.0 e))

-- ---- the first one

both_before : {A : Type 0} (ks ms : List ℕ) → is_before ks ms ≡ true → is_before ms ks ≡ true → A
both_before [] [] h k = cc
both_before [] (n ∷ ns) h k = cc
both_before (m ∷ ms) [] h k = cc
both_before (m ∷ ms) (n ∷ ns) h k = elim (or_cases (nat_lt m n) ((m == n) && is_before ms ns) h) [
  | inl a ↦ elim (or_cases (nat_lt n m) ((n == m) && is_before ns ms) k) [
    | inl b ↦ absurd (let l = ltb-true m n a in let r = ltb-true n m b in omega arith)
    | inr b ↦ absurd (let l = ltb-true m n a in let r = eqb-true n m (and_parts (n == m) (is_before ns ms) b).0 in omega arith)
  ]
  | inr a ↦ elim (or_cases (nat_lt n m) ((n == m) && is_before ns ms) k) [
    | inl b ↦ absurd (let l = ltb-true n m b in let r = eqb-true m n (and_parts (m == n) (is_before ms ns) a).0 in omega arith)
    | inr b ↦ both_before ms ns (and_parts (m == n) (is_before ms ns) a).1 (and_parts (n == m) (is_before ns ms) b).1
  ]
]

comes_after : (before after : List Crossing) (k : Crossing) → IsAscending crossing_key (before ++ k ∷ after) → (c : Crossing) → Contains after c → is_before (crossing_key k) (crossing_key c) ≡ true
comes_after [] after k h c i = h 0 (suc i.0) k c (omega arith) refl (in_slice after c i)
comes_after (b ∷ before) after k h c i = comes_after before after k (λ m n x y l e f. h (suc m) (suc n) x y (omega arith) e f) c i

module _ (net : Net) (domains : Domains) (grays : GrayReg → Bool) (is : IsNet net) (served : List Passage) (P : Bit → Bit → Type 0)
    (gives : (b x : Bit) → Contains served (record { to = x; from = b }) → P b x) (needs : (b x : Bit) → P b x → Contains served (record { to = x; from = b })) where
  every : IsAll (λ (c : Crossing). IsCrossing (design_of net domains) (net_trees net grays) c.from c.to) crossing_key (crossings_of net domains)
  every = crossings_are_all net domains grays (net_ascends net is)

  pub first_bare : (k : Crossing) → IsWalked served (crossings_of net domains) (Bare k) → IsFirstBare (design_of net domains) (net_trees net grays) P k
  first_bare k (before, after, e, have, bare) = record {
    crossing = every.only k (subst (λ ks. Contains ks k) (sym e) (Contains-append_right before (k ∷ after) k (here k after)));
    bare = λ h. bare (needs k.from k.to h);
    first = λ b x crossing less.
        let c : Crossing = record { from = b; to = x } in
        gives b x (elim (Contains-append_cases before (k ∷ after) c (subst (λ ks. Contains ks c) e (every.all c crossing))) [
          | inl i ↦ have c i
          | inr i ↦ elim (parts k after c i) [
            | inl same ↦ absurd (never (sym (never_before (crossing_key k)) ∙ subst (λ (z : Crossing). is_before (crossing_key z) (crossing_key k) ≡ true) (sym same) less))
            | inr j ↦ both_before (crossing_key c) (crossing_key k) less (comes_after before after k (subst (IsAscending crossing_key) e every.ordered) c j)
          ]
        ]);
  }
    where
      never : false ≡ true → ⊥
      never f = cc

  pub all_served : (n : ℕ) → IsWalked served (crossings_of net domains) (Served n) → AreServed (design_of net domains) (net_trees net grays) P × (n ≡ length (crossings_of net domains))
  all_served n (have, l) = ((λ b x crossing. gives b x (have (record { from = b; to = x }) (every.all (record { from = b; to = x }) crossing))), l)

module _ (net : Net) (domains : Domains) (grays : GrayReg → Bool) (is : IsNet net) (served : List Passage) (entries : List SyncEntry) (ss : List Sync) (listed : entries ≡ map sync_entry ss)
    (loads : List Load) (extra : List Crossing) (is_extra : Bit → Bit → Bool) (are : (p : Passage) → Contains served p ↔ Contains (passages entries loads extra) p)
    (others : (b x : Bit) → (is_extra b x ≡ true) ↔ Contains extra (record { from = b; to = x })) where
  gives : (b x : Bit) → Contains served (record { to = x; from = b }) → IsServed ss loads is_extra b x
  gives b x = is_served b x served entries ss listed loads extra is_extra are (others b x)

  needs : (b x : Bit) → IsServed ss loads is_extra b x → Contains served (record { to = x; from = b })
  needs b x = has_served b x served entries ss listed loads extra is_extra are (others b x)

  -- what a walk over all crossings of a net finds
  pub bare_is : (k : Crossing) → IsWalked served (crossings_of net domains) (Bare k) → IsFirstBare (design_of net domains) (net_trees net grays) (IsServed ss loads is_extra) k
  bare_is k h = first_bare net domains grays is served (IsServed ss loads is_extra) gives needs k h

  pub served_are : (n : ℕ) → IsWalked served (crossings_of net domains) (Served n)
      → AreServed (design_of net domains) (net_trees net grays) (IsServed ss loads is_extra) × (n ≡ length (crossings_of net domains))
  served_are n h = all_served net domains grays is served (IsServed ss loads is_extra) gives needs n h

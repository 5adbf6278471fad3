-- The arrivals at register bits, one bit after another.
use Rattle.std.proofs.Common.{◌≡◌, inl, inr, sym, subst, ℕ, ◌+◌, ◌<◌, true, Some, List, [], ◌∷◌, ◌++◌, take, length, get_or, Contains}
use Rattle.cdc_base.specs.declared.bit.Bit.{Bit}
use Rattle.cell_graph.specs.declared.net.Net.{Net}
use Rattle.domains.specs.declared.Domains.{Domains}
use Rattle.domains.specs.Assignment.{group_of}
use Rattle.domains.specs.Fit.{Fit}
use Rattle.domains.specs.Nets.{IsNet}
use Rattle.cdc_model.specs.declared.scheme.Arrival.{Arrival}
use Rattle.cdc_model.specs.declared.scheme.GrayReg.{GrayReg}
use Rattle.cdc_model.specs.Design.{Design}
use Rattle.cdc_model.specs.Nets.{design_of}
use Rattle.cdc_model.specs.Ordered.{IsAll, IsAscending, is_before}
use Rattle.cdc_model.specs.Schemes.{Sync}
use Rattle.cdc_model.specs.Syncs.{syncs_of}
use Rattle.cdc_model.proofs.Ascending.{here}
use Rattle.obligations.specs.declared.arrivals.Family.{Family}
use Rattle.obligations.specs.declared.arrivals.Read.{Read}
use Rattle.obligations.specs.Arrivals.{IsArrival, arrival_key, IsRead, AreReadsIn, family_as, family_at, read_key, by_bit}
use Rattle.obligations.proofs.ReadArrivals.{all_joined, none_all, one_all, only_one, taken_more, taken_before, front_before}
use Rattle.obligations.proofs.Readers.{read_made, one_read}

module _ (net : Net) (domains : Domains) (grays : List GrayReg) where
  abbrev d : Design
  d = design_of net domains

  abbrev ss : List Sync
  ss = syncs_of net domains

  -- the arrival at a bit, with its group and its family, is all that there is
  pub read_there : IsNet net → Fit net domains → (b : Bit) (a : Arrival) → IsArrival d ss a → a.bit ≡ b → (g : ℕ) → group_of domains a.source ≡ Some g → (f : Family) → family_as f ≡ family_at domains grays a
      → AreReadsIn d grays ss (b ∷ []) (record { group = g; family = f; arrival = a } ∷ [])
  read_there is fit b a arrives at g grouped f kept =
      one_all read_key (λ r. IsRead d grays ss r × Contains (b ∷ []) r.arrival.bit) read (made, subst (Contains (b ∷ [])) (sym at) (here b []))
      (λ r (q, i). one_read net domains is fit grays read r made q (subst (λ (x : Bit). a.bit ≡ x) (only_one b r.arrival.bit i) at))
    where
      read : Read
      read = record { group = g; family = f; arrival = a }

      made : IsRead d grays ss read
      made = read_made net domains is fit grays a arrives g grouped f kept

  -- a bit with no arrival has no read
  pub nothing_there : (arrivals : List Arrival) → IsAll (IsArrival d ss) arrival_key arrivals → (b : Bit) → ((a : Arrival) → Contains arrivals a → a.bit ≡ b → ⊥) → AreReadsIn d grays ss (b ∷ []) []
  nothing_there arrivals all b none = none_all read_key (λ r. IsRead d grays ss r × Contains (b ∷ []) r.arrival.bit)
      (λ r ((s, n, j, behind, src, dep, grouped, kept), i). none r.arrival (all.all r.arrival (s, n, j, behind, src, dep)) (sym (only_one b r.arrival.bit i)))

  -- the reads at one bit more
  pub reads_more : (bits : List Bit) → IsAscending by_bit bits → (i : ℕ) (b : Bit) → i < length bits → (old new : List Read) → AreReadsIn d grays ss (take i bits) old
      → (added : List Read) × (new ≡ old ++ added) × AreReadsIn d grays ss (get_or bits i b ∷ []) added → AreReadsIn d grays ss (take (i + 1) bits) new
  reads_more bits up i b within old new h (added, is, k) = subst (IsAll (At (take (i + 1) bits)) read_key) (sym is)
      (all_joined read_key (At (take i bits)) (At (get_or bits i b ∷ [])) (At (take (i + 1) bits)) old added h k in_order
      (λ r (q, j). elim (taken_more bits i b r.arrival.bit within j) [ inl l ↦ inl (q, l) | inr l ↦ inr (q, l) ])
      (λ r (q, j). (q, taken_before bits i b r.arrival.bit within (inl j)))
      (λ r (q, j). (q, taken_before bits i b r.arrival.bit within (inr j))))
    where
      At : List Bit → Read → Type 0
      At xs r = IsRead d grays ss r × Contains xs r.arrival.bit

      in_order : (r q : Read) → At (take i bits) r → At (get_or bits i b ∷ []) q → is_before (read_key r) (read_key q) ≡ true
      in_order r q (x, j) (y, l) = subst (λ (z : Bit). is_before (read_key r) (by_bit z) ≡ true) (only_one (get_or bits i b) q.arrival.bit l)
          (front_before by_bit bits up i b r.arrival.bit within j)

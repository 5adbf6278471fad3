-- The walk over the copyings meets all arrivals.
use Rattle.std.proofs.Common.{◌≡◌, ◌∙◌, ◌++◌, inl, inr, rules, sym, ap, subst, map, take, length}
use Rattle.std.specs.List.{flat_map}
use Rattle.std.proofs.lemmas.List.Sorted.{answers_always}
use Rattle.cdc_model.specs.Ordered.{IsAscending}
use Rattle.obligations.specs.Arrivals.{copying_key, first_arrival, copies_of}
use Rattle.obligations.specs.Given.{syncs_in}
use Rattle.obligations.proofs.AllArrivals.{all_arrivals}
use Rattle.obligations.proofs.arrivals.arrivals.Goals as goal

pub returns : goal.returns
returns c = λ grays rings are shown bits.
    let found = c.args.found.now in
    let cs = c.in_ok-copyings.copyings.items in
    let xs = c.follow.new.arrivals.items in
    let all = c.in_ok-copyings.ensures are.is_net are.has_next shown bits in
    let walk = c.in_ok-follow.ensures (subst (IsAscending copying_key) (sym c.as_slice.ensures.value) all.ordered) in
    let walked : xs ≡ map first_arrival (syncs_in found) ++ flat_map (copies_of cs) (take walk.0 xs) =
    subst (λ ks. xs ≡ map first_arrival (syncs_in found) ++ flat_map (copies_of ks) (take walk.0 xs)) c.as_slice.ensures.value
    (subst (λ fs. xs ≡ fs ++ flat_map (copies_of c.as_slice.result.now) (take walk.0 xs)) (c.in_ok-arrivals.ensures (syncs_in found) are.all_syncs) walk.1) in
    all_arrivals found.net.now found.domains.now are.is_net are.fits cs all xs walk.0 walked (elim walk.2 [ inl l ↦ inl l | inr e ↦ inr (e ∙ ap length bits) ])
    c.sort_unstable_by_key.new.self.items c.sort_unstable_by_key.ensures.permutation (c.sort_unstable_by_key.ensures.sorted (λ a. a.bit) (answers_always _ _ _ (λ f a r g called. search rules)))

use Rattle.std.proofs.Common.{◌≡◌, ◌⊎◌, ◌-◌, ◌^◌, ap, subst, refl}
use Rattle.std.specs.Prelude.{bit_and}
use Rattle.std.specs.List.{Contains}
use Rattle.cofactor.specs.declared.walk.Wanted.{Wanted}
use Rattle.cofactor.specs.Walked.{Walked, AreListed, IsWithin, KeepEntries}
use Rattle.cofactor.proofs.WantedLists.{asked-before, asked-now, only-now, keep-new, listed-now}
use Rattle.cofactor.proofs.walk.Walk.want_at.Goals as goal

pub returns-then-bits-eq0-clause-asked : goal.returns-then-bits-eq0-clause-asked
returns-then-bits-eq0-clause-asked c =
    let e = ap (λ (v : Walked). v.wanted) c.self.view_is in
    asked-before c.self.inside.marks c.args.self.now.wanted (subst (AreListed c.self.inside.marks) e c.self.invariant) c.args.place c.args.bits c.met.result
    (bit_and c.args.bits (2 ^ 64 - 1 - c.met.result)) c.ranges.bits.fits c.met.type_inv c.met.ensures refl c.if-bits-eq0.true

pub invariant_of-self : goal.invariant_of-self
invariant_of-self c =
    let fresh = bit_and c.args.bits (2 ^ 64 - 1 - c.met.result) in
    let entry : Wanted = record { place = c.args.place; bits = fresh } in
    listed-now c.self.inside.marks c.self.inside.wanted.items c.self.invariant c.args.place c.args.bits c.met.result fresh c.ranges.bits.fits c.met.type_inv c.met.ensures refl
    entry refl refl c.push.new.self.items c.in-Ok.ensures.items c.mark.new.self c.mark.ensures

pub returns-in-Ok-clause-asked : goal.returns-in-Ok-clause-asked
returns-in-Ok-clause-asked c =
    let fresh = bit_and c.args.bits (2 ^ 64 - 1 - c.met.result) in
    let entry : Wanted = record { place = c.args.place; bits = fresh } in
    asked-now c.self.inside.marks c.self.inside.wanted.items c.self.invariant c.args.place c.args.bits c.met.result fresh c.ranges.bits.fits c.met.type_inv c.met.ensures refl
    entry refl refl c.push.new.self.items c.in-Ok.ensures.items

pub returns-in-Ok-clause-only : goal.returns-in-Ok-clause-only
returns-in-Ok-clause-only c =
    let fresh = bit_and c.args.bits (2 ^ 64 - 1 - c.met.result) in
    let entry : Wanted = record { place = c.args.place; bits = fresh } in
    let e = ap (λ (v : Walked). v.wanted) c.self.view_is in
    subst (λ ws. (w : Wanted) → Contains c.push.new.self.items w → Contains ws w ⊎ ((w.place ≡ c.args.place) × IsWithin w.bits c.args.bits)) e
    (only-now c.self.inside.marks c.self.inside.wanted.items c.self.invariant c.args.place c.args.bits c.met.result fresh c.ranges.bits.fits c.met.type_inv c.met.ensures refl
    entry refl refl c.push.new.self.items c.in-Ok.ensures.items)

pub returns-in-Ok-clause-kept : goal.returns-in-Ok-clause-kept
returns-in-Ok-clause-kept c =
    let fresh = bit_and c.args.bits (2 ^ 64 - 1 - c.met.result) in
    let entry : Wanted = record { place = c.args.place; bits = fresh } in
    let e = ap (λ (v : Walked). v.wanted) c.self.view_is in
    subst (λ ws. KeepEntries ws c.push.new.self.items) e
    (keep-new c.self.inside.marks c.self.inside.wanted.items c.self.invariant c.args.place c.args.bits c.met.result fresh c.ranges.bits.fits c.met.type_inv c.met.ensures refl
    entry refl refl c.push.new.self.items c.in-Ok.ensures.items)

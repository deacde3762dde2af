-- A delivery that was found is one more that is passed, and what is kept stays right.
use Rattle.std.proofs.Common.{rules, arith, sym, refl, ap, ◌∙◌}
use lib.ListN.{length-drop}
use Rattle.rules.specs.Calls.{Deliver}
use Rattle.rereading.proofs.Sized.{read_sized}
use Rattle.tape.proofs.Found.{found_delivery}
use Rattle.columns.proofs.Same.{same_then}
use Rattle.batch.specs.declared.Stand.{Stand}
use Rattle.batch.proofs.Batches.{told_fits, put_fits}
use Rattle.batch.proofs.Stepping.{deliver_turn, delivery_fits, still_sound, delivery_passed}
use Rattle.batch.proofs.deliveries.Goals as goal

pub words_written-requires : goal.words_written-requires
words_written-requires c =
    let l = c.loop-s in
    let r = c.deliver_kept-r in
    let f = put_fits l.out r.new.out l.p.written _ _ l.invariant.1 (delivery_fits _ _ _ _ _ r.result _ _ r.ensures.made) r.auto.out refl in
    omega (arith, f, l.auto.out)

pub behind-p-requires : goal.behind-p-requires
behind-p-requires c =
    let l = c.loop-s in
    let r = c.deliver_kept-r in
    let b = found_delivery c.args.words.now l.p.used _ c.in-Some.d c.in-Some.is c.delivery_of-in-loop-s.ensures in
    let z = read_sized _ _ 2 b in
    let f = put_fits l.out r.new.out l.p.written _ _ l.invariant.1 (delivery_fits _ _ _ _ _ r.result _ _ r.ensures.made) r.auto.out refl in
    record {
      words = omega (arith, z.1, l.invariant.0.0, length-drop l.p.used c.args.words.now);
      numbers = omega (arith, l.invariant.0.1, l.auto.answers);
      records = omega (arith, f, c.words_written.ensures, l.auto.out);
    }

pub loop-s-smaller : goal.loop-s-smaller
loop-s-smaller c =
    let a = c.args in
    let p = c.loop-s.p in
    let z = read_sized _ _ 2 (found_delivery a.words.now p.used _ c.in-Some.d c.in-Some.is c.delivery_of-in-loop-s.ensures) in
    omega (arith, ap (λ (q : Stand). q.used) c.behind-p.ensures, z.1, c.loop-s.invariant.0.0, length-drop p.used a.words.now)

pub loop-s-preserved : goal.loop-s-preserved
loop-s-preserved c =
    let a = c.args in
    let l = c.loop-s in
    let i = l.invariant in
    let d = c.in-Some.d in
    let r = c.deliver_kept-r in
    let b = found_delivery a.words.now l.p.used _ d c.in-Some.is c.delivery_of-in-loop-s.ensures in
    let z = read_sized _ _ 2 b in
    let room = sym c.has_room.ensures ∙ c.loop-s-test.true in
    let t = deliver_turn a.s l.columns r.new.columns d.issue d.account d.lots r.result _ r.new.out r.ensures.made in
    rw c.behind-p.ensures (
      (omega (arith, z.1, i.0.0, length-drop l.p.used a.words.now), told_fits l.p.answered _ _ _ room (search rules)),
      put_fits l.out r.new.out l.p.written c.words_written.result _ i.1 (rw c.words_written.ensures (delivery_fits _ _ _ _ _ r.result _ _ t)) r.auto.out (search rules),
      search rules,
      search rules,
      still_sound a.s l.columns r.new.columns (Deliver d.issue d.account d.lots) r.result _ r.new.out i.4 t,
      r.ensures.kept,
      delivery_passed a.words.now a.s a.columns.now l.columns r.new.columns a.answers.now l.answers c.tell.new.answers a.from l.p i.4 r.result c.tell.ensures
          d.issue d.account d.lots c.words_written.result a.out.now l.out r.new.out i.6 b room r.ensures.made c.words_written.ensures,
      same_then i.7 r.ensures.same,
    )

-- By cases: no units, a small unit, an account's first full ones, or full ones that join its stretch.
use mathlib.Core.Path.{◌≡◌}
use Prim.Native.Nat.{suc, ◌-◌, ◌%◌}
use native.Mathlib.Omega.{arith}
use lib.ListN.{get_or}
use Rattle.stretching.proofs.Adding.{here, own_there, own_fits, added_none, added_small, added_new, added_own}
use Rattle.stretching.proofs.add.Goals as goal

pub returns-then-word-lt-ACCOUNTS : goal.returns-then-word-lt-ACCOUNTS
returns-then-word-lt-ACCOUNTS c =
    added_none c.args.out.now c.args.c c.args.at.now c.args.word c.requires (omega arith)

pub offset_bounds-out-c : goal.offset_bounds-out-c
offset_bounds-out-c c =
    omega (arith, here c.args.out.now c.args.c c.args.at.now c.args.word c.requires, c.requires.room.whole)

pub bounds-out-c : goal.bounds-out-c
bounds-out-c c =
    here c.args.out.now c.args.c c.args.at.now c.args.word c.requires

pub overflow_add-result : goal.overflow_add-result
overflow_add-result c =
    omega (arith, here c.args.out.now c.args.c c.args.at.now c.args.word c.requires, c.requires.room.whole)

pub returns-then-word-lt-UNIT_WORD : goal.returns-then-word-lt-UNIT_WORD
returns-then-word-lt-UNIT_WORD c =
    added_small c.args.out.now c.args.c c.args.at.now c.args.word c.requires (omega arith) (omega arith)

pub overflow_add-at : goal.overflow_add-at
overflow_add-at c =
    omega (arith, here c.args.out.now c.args.c c.args.at.now c.args.word c.requires, c.requires.room.whole)

pub offset_bounds-out-c-then-p-eq0 : goal.offset_bounds-out-c-then-p-eq0
offset_bounds-out-c-then-p-eq0 c =
    omega (arith, here c.args.out.now c.args.c c.args.at.now c.args.word c.requires, c.requires.room.whole)

pub bounds-out-c-then-p-eq0 : goal.bounds-out-c-then-p-eq0
bounds-out-c-then-p-eq0 c =
    here c.args.out.now c.args.c c.args.at.now c.args.word c.requires

pub overflow_add-result-then-p-eq0 : goal.overflow_add-result-then-p-eq0
overflow_add-result-then-p-eq0 c =
    let s = c in
    omega (arith, here s.args.out.now s.args.c s.args.at.now s.args.word s.requires, s.requires.room.whole)

pub returns-then-p-eq0 : goal.returns-then-p-eq0
returns-then-p-eq0 c =
    let s = c in
    added_new s.args.out.now s.args.c s.args.at.now s.args.word s.requires (omega arith) (omega arith)

pub offset_bounds-out-p : goal.offset_bounds-out-p
offset_bounds-out-p c =
    let s = c in
    let p = get_or s.args.at.now (s.args.word % 64) 0 in
    let e : p ≡ suc (p - 1) = omega arith in
    omega (arith, own_there s.args.out.now s.args.c s.args.at.now s.args.word s.requires (p - 1) (omega arith) e, s.requires.room.whole)

pub bounds-out-p : goal.bounds-out-p
bounds-out-p c =
    let p = get_or c.args.at.now (c.args.word % 64) 0 in
    let e : p ≡ suc (p - 1) = omega arith in
    own_there c.args.out.now c.args.c c.args.at.now c.args.word c.requires (p - 1) (omega arith) e

pub overflow_add-out : goal.overflow_add-out
overflow_add-out c =
    let p = get_or c.args.at.now (c.args.word % 64) 0 in
    let e : p ≡ suc (p - 1) = omega arith in
    omega (arith, own_fits c.args.out.now c.args.c c.args.at.now c.args.word c.requires (p - 1) (omega arith) e)

pub returns : goal.returns
returns c =
    let s = c in
    let p = get_or s.args.at.now (s.args.word % 64) 0 in
    let e : p ≡ suc (p - 1) = omega arith in
    added_own s.args.out.now s.args.c s.args.at.now s.args.word s.requires (p - 1) (omega arith) e

pub bounds-out-p-2 : goal.bounds-out-p-2
bounds-out-p-2 c =
    let p = get_or c.args.at.now (c.args.word % 64) 0 in
    let e : p ≡ suc (p - 1) = omega arith in
    own_there c.args.out.now c.args.c c.args.at.now c.args.word c.requires (p - 1) (omega arith) e

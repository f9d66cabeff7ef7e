-- What a read gave stands behind what was read before it.
use Rattle.std.proofs.Common.{◌≡◌, ℕ, ◌+◌, ◌≤◌, List, ◌++◌, length, take, subst, sym, length-take-le, arith}
use Rattle.std.proofs.KnownBytes.{Consumes-trans}
use Rattle.std.specs.Io.KnownBytes.{Consumes}
use borrow.Rule.Slice.PartMut.{put_mid, post_of}
use lib.Seq.{take-append-add, take-append-le}
use Rattle.print_check.proofs.read_full.Goals as goal

take_more : (a n k : ℕ) (xs ys : List ℕ) → a ≤ length xs → n ≤ length ys → take (a + n) (put_mid a k xs ys) ≡ take a xs ++ take n ys
take_more a n k xs ys h l =
    rw (length-take-le a xs h, take-append-le n ys (post_of a k xs) l) at (take-append-add (take a xs) (ys ++ post_of a k xs) n)

pub loop-done-preserved : goal.loop-done-preserved
loop-done-preserved g c =
    let l = c.loop-done in
    let read = c.in_ok-n in
    let more = take_more l.done read.n _ l.buf c.read.new.buf l.invariant.in_buf read.ensures.bound.0 in
    record {
      in_buf = omega (arith, read.ensures.bound.0);
      bytes = subst (Consumes _ _) (sym more) (Consumes-trans _ _ _ _ _ l.invariant.bytes read.ensures.bytes.0);
    }

-- `mend_scrolls::mend_taken` mends by way of columns of 1,024 places. Assumes nothing.
use Prim.Native.Nat.{ℕ, ◌≤◌}
use mathlib.Core.Path.{◌≡◌, sym}
use lib.ListN.{length, take, replicate}
use lib.Seq.{length-take-le}
use Rattle.limits.proofs.ListTaken.{list-taken}
use Rattle.mend_scrolls.proofs.mend_taken.Goals as goal
use Rattle.mend_scrolls.proofs.mend_taken.Goals.{Start}

few : (c : Start) → length c.args.beats.now ≤ 1024
few c = (list-taken c.requires).few

part : (c : Start) → length (take (length c.args.beats.now) (replicate {A = ℕ} 1024 0)) ≡ length c.args.beats.now
part c = length-take-le (length c.args.beats.now) (replicate {A = ℕ} 1024 0) (few c)

pub slice_bounds-numbers-end : goal.slice_bounds-numbers-end
slice_bounds-numbers-end c = few (goal.at.slice_bounds-numbers-end c).Start

pub slice_bounds-mend_in-end : goal.slice_bounds-mend_in-end
slice_bounds-mend_in-end c = sym (part (goal.at.slice_bounds-mend_in-end c).Start)

pub slice_bounds-fates-end : goal.slice_bounds-fates-end
slice_bounds-fates-end c = few (goal.at.slice_bounds-fates-end c).Start

pub slice_bounds-mend_in-end-2 : goal.slice_bounds-mend_in-end-2
slice_bounds-mend_in-end-2 c = sym (part (goal.at.slice_bounds-mend_in-end-2 c).Start)

pub slice_bounds-kept-end : goal.slice_bounds-kept-end
slice_bounds-kept-end c = few (goal.at.slice_bounds-kept-end c).Start

pub slice_bounds-mend_in-end-3 : goal.slice_bounds-mend_in-end-3
slice_bounds-mend_in-end-3 c = sym (part (goal.at.slice_bounds-mend_in-end-3 c).Start)

pub mend_in-requires : goal.mend_in-requires
mend_in-requires c =
    let start = c in
    record {
      values_value = start.requires;
      work_for = record { few = few (goal.at.mend_in-requires start).Start; numbers_long = part (goal.at.mend_in-requires start).Start; fates_long = part (goal.at.mend_in-requires start).Start; kept_long = part (goal.at.mend_in-requires start).Start };
    }

pub returns : goal.returns
returns c = c.mend_in.ensures

-- `notes_displayed::show_all` lends an array for the prefix. Assumes nothing.
use Rattle.std.proofs.Common.{◌≡◌, ℕ, ◌≤◌, sym, arith, length-take-le}
use Rattle.notes_displayed.proofs.ScrollsTaken.{scrolls-taken}
use Rattle.notes_displayed.proofs.show_all.Goals as goal

pub slice_bounds-prefix-end : goal.slice_bounds-prefix-end
slice_bounds-prefix-end c = let start = c in (scrolls-taken start.requires.0).0.few

pub slice_bounds-show_by-end : goal.slice_bounds-show_by-end
slice_bounds-show_by-end c = let start = c in sym (length-take-le _ _ (scrolls-taken start.requires.0).0.few)

at_most : {m n : ℕ} → m ≡ n → m ≤ n
at_most e = omega arith

pub show_by-requires : goal.show_by-requires
show_by-requires c =
    let start = c in
    (start.requires.0, at_most (sym (length-take-le _ _ (scrolls-taken start.requires.0).0.few)), start.requires.1, start.requires.2)

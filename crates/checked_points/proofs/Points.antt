-- The checked points of the scope, one table with one computed test. Assumes nothing.
--     a to e   places on a regular axis of 5 points, start 0, step 1
--     f to h   places on the rectilinear axis with the knots 0, 1, 2, 4, 8
--     i        lengths 4, 5, 6: the strides, and where axis 1 line 7 begins
--     j        coefficients 0, 1, 2, 3, start 0, step 1: gradient 1 at 1 and, with the flag set, at -2
--     k        lengths 4, 4, 4: axis 1 line 0 is due once axis 0 lines 0, 4, 8, 12 are solved, 9 before
--     l        zero samples fit to zeros
use mathlib.Core.Path.{◌≡◌, refl}
use mathlib.Core.Bool.{Bool, true, false}
use mathlib.Core.List.{List, [], ◌∷◌}
use Prim.Native.Nat.{ℕ}
use lib.IntN.{pos, negsuc}
use lib.Ieee.{Float, fin, binary64, lt, add, sub, mul, div, neg, of_int, of_bits}
use Rattle.shape.specs.Shape.{product, longest, stride, first, first_cell, line_of}
use Rattle.shape.specs.Fit.{solve_line, solve_lines, fit_after}
use Rattle.shape.specs.Checks.{first_refusal}
use Rattle.shape.specs.Below.{all_below, sum_below}
use Rattle.book.specs.Book.{Book, Fed, is_solved, lower_solved, is_due, book_checks, book_call, book_answers}
use Rattle.evaluation.specs.Axes.{first_over}
use Rattle.interp_math.specs.Sum.{mul_add, dot4, summed, gradient_part}
use Rattle.multibspline.specs.Numbers.{f0, f1, f2, f3, f4}
use Rattle.multibspline.specs.declared.saturation.Saturation.TheVariants.{None, InsideLow, OutsideLow, InsideHigh, OutsideHigh}
use Rattle.regular_weights.specs.Place as Regular
use Rattle.regular_weights.specs.Place.{loc_of, past_origin}
use Rattle.regular_weights.specs.Weights.{cubic_bspline_weights, cubic_bspline_weight_derivatives, low_linearized_boundary_weights, low_linearized_boundary_weight_derivatives, fold_low, interp_weights, span_derivatives, scaled, interp_weight_derivatives}
use Rattle.std.proofs.Common.{Option}
use Rattle.regular_weights.specs.declared.place.Loc as Cells
use Rattle.regular.specs.Fit.{regular_fit}
use Rattle.regular_blocks.specs.Map.{RegularMap}
use Rattle.evaluation.specs.ByAxis.{part_at}
use Rattle.regular_blocks.specs.Eval.{loc_on, weights_on, slopes_on, regular_axes}
use Rattle.knots.specs.Knots.{count_below}
use Rattle.knots.specs.Place as Rectilinear
use Rattle.knots.specs.Place.{loc}
use Rattle.knots.specs.declared.place.Loc as Span

-- a row of the table: a place on a regular axis, one on a rectilinear axis, counts, floats, or whether a line is due
pub data Figure : Type 0 where
  cell : Option Cells.Loc → Figure
  span : Span.Loc → Figure
  counts : List ℕ → Figure
  floats : List Float → Figure
  due : Bool → Figure

-- the axis of a to e, and that of f to h
at5 : Float → Figure
at5 x = cell (Regular.get_loc binary64 5 f0 f1 x)

f8 : Float
f8 = fin false 1 (pos 3)

uneven : Float → Figure
uneven x = span (Rectilinear.get_loc (f0 ∷ f1 ∷ f2 ∷ f4 ∷ f8 ∷ []) x)

-- the shapes of i and of k
unequal : List ℕ
unequal = 4 ∷ 5 ∷ 6 ∷ []

cube : List ℕ
cube = 4 ∷ 4 ∷ 4 ∷ []

-- the map of j
four : Bool → RegularMap
four linear = record { count = 1; lens = 4 ∷ 0 ∷ 0 ∷ 0 ∷ []; starts = f0 ∷ f0 ∷ f0 ∷ f0 ∷ []; steps = f1 ∷ f0 ∷ f0 ∷ f0 ∷ []; linear = linear }

slope : Bool → Float → Float
slope linear x = part_at binary64 (regular_axes binary64 (four linear)) (f0 ∷ f1 ∷ f2 ∷ f3 ∷ []) (x ∷ f0 ∷ f0 ∷ f0 ∷ []) 0

-- a call of k with just enough scratch, and lines of axis 0 solved
call : ℕ → ℕ → Fed
call axis line = record { axis = axis; line = line; scratch = 8 }

solved : List ℕ → Book
solved [] = []
solved (l ∷ ls) = record { axis = 0; number = l } ∷ solved ls

pub table : List Figure
table =
    at5 (fin true 1 (negsuc 0))
    ∷ at5 f0
    ∷ at5 f1
    ∷ at5 f3
    ∷ at5 f4
    ∷ uneven f0
    ∷ uneven f4
    ∷ uneven f8
    ∷ counts (stride unequal 0 ∷ stride unequal 1 ∷ stride unequal 2 ∷ [])
    ∷ counts (first unequal 1 7 ∷ [])
    ∷ floats (slope false f1 ∷ slope true (fin true 1 (pos 1)) ∷ [])
    ∷ counts (book_answers cube (call 1 0 ∷ call 0 0 ∷ call 1 0 ∷ call 0 4 ∷ call 1 0 ∷ call 0 8 ∷ call 1 0 ∷ call 0 12 ∷ call 1 0 ∷ []) [])
    ∷ due (is_due cube (solved (0 ∷ 4 ∷ 8 ∷ 12 ∷ [])) 1 0)
    ∷ due (is_due cube (solved (0 ∷ 4 ∷ 8 ∷ [])) 1 0)
    ∷ floats (regular_fit binary64 (4 ∷ []) (f0 ∷ f0 ∷ f0 ∷ f0 ∷ []))
    ∷ []

pub points :
    table
    ≡ cell (Regular.at OutsideLow 0)
    ∷ cell (Regular.at InsideLow 0)
    ∷ cell (Regular.at None 0)
    ∷ cell (Regular.at InsideHigh 1)
    ∷ cell (Regular.at OutsideHigh 1)
    ∷ span (loc OutsideLow 0 0)
    ∷ span (loc None 2 1)
    ∷ span (loc InsideHigh 3 1)
    ∷ counts (30 ∷ 6 ∷ 1 ∷ [])
    ∷ counts (31 ∷ [])
    ∷ floats (f1 ∷ f1 ∷ [])
    ∷ counts (9 ∷ 0 ∷ 9 ∷ 0 ∷ 9 ∷ 0 ∷ 9 ∷ 0 ∷ 0 ∷ [])
    ∷ due true
    ∷ due false
    ∷ floats (f0 ∷ f0 ∷ f0 ∷ f0 ∷ [])
    ∷ []
unfolding table at5 f8 uneven unequal cube four slope call solved Regular.get_loc loc_of past_origin Rectilinear.get_loc Rectilinear.loc_of count_below lt part_at first_over sum_below loc_on weights_on slopes_on gradient_part summed dot4 mul_add interp_weights interp_weight_derivatives span_derivatives scaled cubic_bspline_weights cubic_bspline_weight_derivatives low_linearized_boundary_weights low_linearized_boundary_weight_derivatives fold_low first_refusal product longest first_cell line_of solve_line solve_lines fit_after book_answers book_checks book_call is_due lower_solved is_solved all_below add sub mul div neg of_int of_bits
points = refl

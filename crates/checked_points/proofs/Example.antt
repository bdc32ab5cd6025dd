-- The scope's example of the map program, computed: the bytes that it reads, the bytes that it prints. Assumes nothing.
use mathlib.Core.Path.{◌≡◌, refl}
use mathlib.Core.List.{List, [], ◌∷◌, ◌++◌}
use Prim.Native.Nat.{ℕ}
use lib.ListN.{replicate}
use lib.Ieee.{lt, add, sub, mul, div, of_int, of_bits, to_bits}
use Rattle.shape.specs.Below.{any_below, sum_below}
use Rattle.shape.specs.Shape.{product, first_cell, line_of}
use Rattle.shape.specs.Fit.{solve_line, solve_lines, fit_after}
use Rattle.shape.specs.Checks.{first_refusal, any_short}
use Rattle.interp_math.specs.Sum.{mul_add, dot4, summed, gradient_part}
use Rattle.evaluation.specs.Axes.{in_use, query, first_over}
use Rattle.evaluation.specs.Spline.{one_answer}
use Rattle.regular_weights.specs.Place.{get_loc, loc_of, past_origin}
use Rattle.regular_weights.specs.Weights.{cubic_bspline_weights, cubic_bspline_weight_derivatives, interp_weights, span_derivatives, scaled, interp_weight_derivatives}
use Rattle.regular_map.specs.Map.{made}
use Rattle.evaluation.specs.ByAxis.{value_at, part_at, refuses}
use Rattle.regular_blocks.specs.Eval.{loc_on, weights_on, slopes_on}
use Rattle.regular_blocks.specs.Checks.{any_step_bad}
use Rattle.float_text.specs.Digits.{digit_of, letter_of, number_from, digits_of}
use Rattle.float_text.specs.Bits.{bits_in, bits_text, float_in, float_text}
use Rattle.map_fields.specs.Fields.{lines, fields, floats_in, row_in, rest}
use Rattle.map_fields.specs.Head.{decimal_in, are_decimals, decimals_of, is_byte, head_in}
use Rattle.map_print.specs.Print.{floats_text, width_of, count_text, map_line, answer_line, total_line}
use Rattle.map_spline.specs.Outside.{regular_axis_outside}
use Rattle.map_spline.specs.Surface.{row_length, map_number, surface}
use Rattle.map_work.specs.Program as Program
use Rattle.map_work.specs.Program.{program}

-- fields parted by commas, and a newline
row : List (List ℕ) → List ℕ
row [] = 10 ∷ []
row (x ∷ []) = x ++ (10 ∷ [])
row (x ∷ y ∷ ys) = x ++ (44 ∷ row (y ∷ ys))

-- a field of one byte, and the floats 0000000000000000 and 3ff0000000000000
byte : ℕ → List ℕ
byte b = b ∷ []

zero : List ℕ
zero = replicate 16 48

one : List ℕ
one = 51 ∷ 102 ∷ 102 ∷ replicate 13 48

-- E,0,1,4; start and step; four samples; a query
pub input : List ℕ
input =
    row (byte 69 ∷ byte 48 ∷ byte 49 ∷ byte 52 ∷ [])
    ++ (row (zero ∷ one ∷ [])
    ++ (row (zero ∷ zero ∷ zero ∷ zero ∷ [])
    ++ row (one ∷ [])))

-- M,0; V,0 with a value and one part; T,1,0
pub output : List ℕ
output =
    row (byte 77 ∷ byte 48 ∷ [])
    ++ (row (byte 86 ∷ byte 48 ∷ zero ∷ zero ∷ [])
    ++ row (byte 84 ∷ byte 49 ∷ byte 48 ∷ []))

pub example : program input ≡ output
unfolding input output row byte zero one program Program.first Program.shaped Program.shape_number Program.second Program.third Program.fitted Program.queries lines fields floats_in row_in rest decimal_in are_decimals decimals_of is_byte head_in digit_of letter_of number_from digits_of bits_in bits_text float_in float_text floats_text width_of count_text map_line answer_line total_line any_below regular_axis_outside row_length map_number surface made any_step_bad in_use query one_answer get_loc loc_of past_origin lt value_at part_at refuses first_over sum_below loc_on weights_on slopes_on gradient_part summed dot4 mul_add interp_weights interp_weight_derivatives span_derivatives scaled cubic_bspline_weights cubic_bspline_weight_derivatives first_refusal any_short product first_cell line_of solve_line solve_lines fit_after add sub mul div of_int of_bits to_bits
example = refl

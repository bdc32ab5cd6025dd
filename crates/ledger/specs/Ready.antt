-- What begin and the line call check first: the shape, the joined grid's length, those of the coefficients and of the ledger,
-- and the knots. Assumes nothing.
--     count, lens, grid, knots   as in book/specs/Line_call.antt
--     coefs, ledger, scratch     the lengths of the buffers
use Rattle.std.specs.Prelude.{List, ◌++◌, ℕ, take}
use Rattle.shape.specs.Shape.{size}
use Rattle.shape.specs.Checks.{Check, shape_checks, length_check, scratch_check}

unfoldable pub ready_checks : ℕ → List ℕ → List Check → List Check → ℕ → ℕ → List Check
ready_checks count lens grid knots coefs ledger =
    shape_checks count lens ++ (grid ++ (length_check (size (take count lens)) coefs ++ (length_check (size (take count lens)) ledger ++ knots)))

-- and scratch: all that a line call checks but the line itself. After an accepted begin they pass for every call of a list.
unfoldable pub call_ready_checks : ℕ → List ℕ → List Check → List Check → ℕ → ℕ → ℕ → List Check
call_ready_checks count lens grid knots coefs ledger scratch =
    ready_checks count lens grid knots coefs ledger ++ scratch_check (take count lens) scratch

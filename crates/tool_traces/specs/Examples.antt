-- Worked traces.
use Rattle.std.specs.Prelude.{◌≡◌, refl, true, false, [], ◌∷◌, ◌++◌, None, Some, Ok, Err, pos, negsuc, codes, replicate}
use Rattle.base_fixed_point.specs.Types.{int8, int32, boolean}
use Rattle.tool_traces.specs.declared.rows.BadWhy.TheVariants.{Count, Form, Range}
use Rattle.tool_traces.specs.declared.lines.Next.TheVariants.{Line, More, Long, End}
use Rattle.tool_traces.specs.Lines.{next_line_of, whole_lines}
use Rattle.tool_traces.specs.Rows.{rows_of, row_of}

trace-three : rows_of (codes "5\n-7\n2147483647") (int32 ∷ [])
    ≡ record { rows = (pos 5 ∷ []) ∷ (negsuc 6 ∷ []) ∷ (pos 2147483647 ∷ []) ∷ []; bad = None }
trace-three = refl

trace-range : rows_of (codes "1\n2\n200\n") (int8 ∷ [])
    ≡ record {
      rows = (pos 1 ∷ []) ∷ (pos 2 ∷ []) ∷ [];
      bad = Some (record { line = 3; why = Range 1 });
    }
trace-range = refl

trace-empty : rows_of [] (int8 ∷ []) ≡ record { rows = []; bad = None }
trace-empty = refl

trace-no_inputs : rows_of (codes "\n\n") [] ≡ record { rows = [] ∷ [] ∷ []; bad = None }
trace-no_inputs = refl

row-blanks : row_of (int32 ∷ boolean ∷ []) (codes " -4 \t1 ") ≡ Ok (negsuc 3 ∷ pos 1 ∷ [])
row-blanks = refl

row-count : row_of (int32 ∷ []) (codes "1 2 x") ≡ Err (Count 3)
row-count = refl

row-form : row_of (boolean ∷ boolean ∷ []) (codes "+1 2") ≡ Err (Form 1)
row-form = refl

row-second : row_of (boolean ∷ boolean ∷ []) (codes "1 2") ≡ Err (Range 2)
row-second = refl

next-line : next_line_of (codes "ab\r\nc") 0 false ≡ Line 0 2 4
next-line = refl

next-last : next_line_of (codes "ab\r\nc") 4 true ≡ Line 4 5 5
next-last = refl

next-more : next_line_of (codes "ab\r\nc") 4 false ≡ More
next-more = refl

next-end : next_line_of (codes "ab") 2 true ≡ End
next-end = refl

next-carriage : next_line_of (replicate 4096 49 ++ 13 ∷ []) 0 false ≡ More
next-carriage = refl

next-long : next_line_of (replicate 4097 49) 0 false ≡ Long
next-long = refl

-- a line that has its end, one that ends in bytes 13 and 10, and the beginning of a third
whole-two : whole_lines (codes "5\n-7\r\n21") ≡ codes "5" ∷ codes "-7" ∷ []
whole-two = refl

whole-none : whole_lines (codes "21") ≡ []
whole-none = refl

-- Colours, names and places in a picture of code. SVG 1.1, https://www.w3.org/TR/SVG11/; the picture is this project's own.
use Rattle.std.specs.Prelude.{ℕ, ◌+◌, ◌-◌, ◌*◌, ◌/◌, ◌%◌, Bool, false, not, ◌==◌, ◌&&◌, ◌||◌, nat_lt, nat_le, min, max, List, [], ◌∷◌, ◌++◌, codes, flat_map, if◌then◌else◌}
use Rattle.std.specs.Fmt.{decimal, digits}
use Rattle.drawing.specs.declared.strip.Strip.{Strip}

abbrev pub address : ℕ → List ℕ
address a = codes "0x" ++ digits 16 false a

-- the addresses from a up to, but not with, b
unfoldable pub range_text : (a b : ℕ) → List ℕ
range_text a b = address a ++ codes ".." ++ address b

abbrev pub two_digits : ℕ → List ℕ
two_digits b = digits 16 false (b / 16) ++ digits 16 false (b % 16)

-- the marks " & ' < > of XML, https://www.w3.org/TR/xml/#syntax
abbrev pub is_markup : ℕ → Bool
is_markup b = (b == 34) || ((b == 38) || ((b == 39) || ((b == 60) || (b == 62))))

-- a visible character of ASCII other than the backslash, 92
abbrev pub is_plain : ℕ → Bool
is_plain b = nat_le 33 b && (nat_le b 126 && not (b == 92))

-- a mark of XML is a reference, and a byte that isn't plain is \x and two digits
abbrev pub byte_text : ℕ → List ℕ
byte_text b =
    if is_markup b then codes "&#x" ++ two_digits b ++ codes ";"
    else if is_plain b then b ∷ []
    else codes "\\x" ++ two_digits b

unfoldable pub name_text : List ℕ → List ℕ
name_text name = flat_map byte_text name

-- how often a block ran: grey for never, then a colour for each power of ten, light to dark (viridis)
unfoldable pub colour_of : ℕ → List ℕ
colour_of count =
    if count == 0 then codes "#bdbdbd"
    else if nat_lt count 10 then codes "#fde725"
    else if nat_lt count 100 then codes "#90d743"
    else if nat_lt count 1000 then codes "#35b779"
    else if nat_lt count 10000 then codes "#21918c"
    else if nat_lt count 100000 then codes "#31688e"
    else if nat_lt count 1000000 then codes "#443983"
    else codes "#440154"

-- of a width of 1200, the share of a part
unfoldable pub share_of : (part whole : ℕ) → ℕ
share_of part whole = if whole == 0 then 0 else part * 1200 / whole

-- where an address is, on a strip that begins 20 from the left; one outside is at the nearer end
abbrev pub along : Strip → ℕ → ℕ
along s a = 20 + share_of (min (a - s.from) (s.to - s.from)) (s.to - s.from)

-- the width of a range, at least 1
abbrev pub wide : Strip → (a b : ℕ) → ℕ
wide s a b = max 1 (along s b - along s a)

abbrev pub middle : Strip → (a b : ℕ) → ℕ
middle s a b = along s a + wide s a b / 2

-- an attribute with words, and one with a number
unfoldable pub worded : (name words : List ℕ) → List ℕ
worded name words = codes " " ++ name ++ codes "='" ++ words ++ codes "'"

unfoldable pub numbered : (name : List ℕ) (value : ℕ) → List ℕ
numbered name value = worded name (decimal value)

unfoldable pub point_text : (x y : ℕ) → List ℕ
point_text x y = numbered (codes "x") x ++ numbered (codes "y") y

unfoldable pub size_text : (width height : ℕ) → List ℕ
size_text width height = numbered (codes "width") width ++ numbered (codes "height") height

-- a rectangle up to the end of its tag
unfoldable pub rect_text : (x y width height : ℕ) (colour : List ℕ) → List ℕ
rect_text x y width height colour = codes "<rect" ++ point_text x y ++ size_text width height ++ worded (codes "fill") colour

-- a range of addresses on a strip, which is 40 high
unfoldable pub mark_text : Strip → (a b : ℕ) (colour : List ℕ) → List ℕ
mark_text s a b colour = rect_text (along s a) s.top (wide s a b) 40 colour

-- the whole strip
unfoldable pub ground_text : Strip → List ℕ
ground_text s = rect_text 20 s.top 1200 40 (codes "#eeeeee") ++ codes "/>\n"

-- How a header is printed, and why there is none.
use Rattle.std.specs.Prelude.{ℕ, ◌/◌, ◌%◌, true, List, ◌∷◌, [], ◌++◌, codes}
use Rattle.std.specs.Fmt.{decimal, digit_glyph}
use Rattle.std.specs.List.{flat_map}
use Rattle.header.specs.Headers.{HeaderRecord}
use Rattle.header.specs.Names.{NameRecord}
use Rattle.header.specs.Shown.{kind_text, category_text}
use Rattle.headerdump.specs.declared.answers.NoHeader.{NoHeader}
use Rattle.headerdump.specs.declared.answers.NoHeader.TheVariants.{NoBytes, Refused}
use Rattle.hexpairs.specs.Dashes.{text_or_dash}
use Rattle.moment.specs.Shown.{time_text}
use Rattle.refusal.specs.Numbers.{number_of, layer_number}
use Rattle.refusal.specs.declared.Fault.{Fault}

-- a byte as two hexadecimal digits, 0 to 9 and A to F, the upper half first
abbrev pub byte_text : ℕ → List ℕ
byte_text b = digit_glyph true (b / 16) ∷ digit_glyph true (b % 16) ∷ []

abbrev pub digits_text : List ℕ → List ℕ
digits_text xs = flat_map byte_text xs

-- the core: what it announces, its sizes and its types
unfoldable pub core_text : HeaderRecord → List ℕ
core_text h =
    kind_text h.kind ++ codes " body=" ++ decimal h.body_size ++ codes " header=" ++ decimal h.header_size ++ codes " type=" ++ decimal h.content_type ++ codes " subtype=" ++ decimal h.subtype

abbrev pub name_text : NameRecord → List ℕ
name_text n = codes " charset=" ++ decimal n.charset ++ codes " name=" ++ digits_text n.bytes

-- what may be missing, and then is a dash
unfoldable pub options_text : HeaderRecord → List ℕ
options_text h =
    codes " version=" ++ text_or_dash decimal h.version ++ codes " expire=" ++ text_or_dash time_text h.expire ++ codes " trigger=" ++ text_or_dash time_text h.trigger ++ codes " category=" ++ text_or_dash category_text h.category

abbrev pub header_text : HeaderRecord → List ℕ
header_text h = core_text h ++ name_text h.name ++ options_text h

-- a refusal: its number, its layer and its place
abbrev pub refusal_text : Fault → List ℕ
refusal_text e =
    codes "refused " ++ decimal (number_of e.cause) ++ codes " layer " ++ decimal (layer_number e.layer) ++ codes " place " ++ decimal e.place

abbrev pub no_header_text : NoHeader → List ℕ
no_header_text NoBytes = codes "no hexadecimal text"
no_header_text (Refused e) = refusal_text e

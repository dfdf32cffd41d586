-- THE GRAMMAR: what each block is made of, beside the rules' "Statements" and the functions of the original's reader.
use Rattle.std.specs.Prelude.{ℕ, List, [], ◌∷◌}
use Rattle.record.specs.Kinds.{VERSION, BUSBITCHARS, DIVIDERCHAR, NAMESCASESENSITIVE, NOWIREEXTENSIONATPIN, UNITS, DATABASE, SITE, SITE_CLASS, SYMMETRY, SYMMETRY_WORD, SIZE, MACRO, MACRO_CLASS, MACRO_SITE, FOREIGN, ORIGIN, PIN, DIRECTION, USE, SHAPE, ANTENNAMODEL, ANTENNA, PORT, PORT_CLASS, OBS, LAYER, LAYER_OPTION, WIDTH, RECT, POLYGON, PATH, POINT, VIA, WITH_POINT, EXCEPTPGNET, SPACING, DESIGNRULEWIDTH}
use Rattle.grammar.specs.Grammar.{Block, Library, Units, Site, Symmetry, Macro, Pin, Port, Obs, Options, Layer, Rect, Polygon, Path, Act, key, keyword, name, own, x, y, semi, value, first, first_key, second, string, code, if_more, no_name, among, whole, stay, enter, named, version, statement, close, refuse, back, up_to54, Row, row, Body, keyed, worded, options, parts, counted}

-- 5 or 5.0 to 5.8, one nonzero decimal, in millionths
abbrev pub versions : List ℕ
versions = 5000000 ∷ 5100000 ∷ 5200000 ∷ 5300000 ∷ 5400000 ∷ 5500000 ∷ 5600000 ∷ 5700000 ∷ 5800000 ∷ []

-- 100, 200, 400, 800, 1000, 2000, 4000, 8000, 10000 or 20000, in millionths
abbrev pub microns : List ℕ
microns =
    100000000 ∷ 200000000 ∷ 400000000 ∷ 800000000 ∷ 1000000000 ∷ 2000000000 ∷ 4000000000 ∷ 8000000000 ∷ 10000000000 ∷ 20000000000 ∷ []

-- `parse_size`
abbrev size : Row
size = row "SIZE" (statement SIZE (x ∷ key "BY" ∷ y ∷ semi ∷ []) stay)

-- `parse_symmetries`: the words up to the `;`
abbrev symmetry : Row
symmetry = row "SYMMETRY" (statement SYMMETRY [] (enter Symmetry []))

-- an antenna amount, with its layer if one is given
abbrev antenna : ℕ → Act
antenna n = statement ANTENNA (code n ∷ x ∷ if_more 2 ∷ key "LAYER" ∷ name ∷ semi ∷ []) stay

-- what a layer is made of in a port or among the obstructions: `parse_layer_geometries`
abbrev layer : Row
layer = row "LAYER" (statement LAYER (name ∷ []) (enter Options []))

abbrev pub body : Block → Body
-- `parse_lib`
body Library = keyed 5 (
    row "VERSION" (statement VERSION (x ∷ semi ∷ among versions ∷ []) version)
    ∷ row "BUSBITCHARS" (statement BUSBITCHARS (string 2 ∷ semi ∷ []) stay)
    ∷ row "DIVIDERCHAR" (statement DIVIDERCHAR (string 1 ∷ semi ∷ []) stay)
    ∷ row "NAMESCASESENSITIVE" (up_to54 (statement NAMESCASESENSITIVE (value ∷ semi ∷ []) stay))
    ∷ row "NOWIREEXTENSIONATPIN" (statement NOWIREEXTENSIONATPIN (value ∷ semi ∷ []) stay)
    ∷ row "UNITS" (statement UNITS [] (enter Units []))
    ∷ row "SITE" (statement SITE (name ∷ []) (named Site (SITE_CLASS ∷ SIZE ∷ [])))
    ∷ row "MACRO" (statement MACRO (name ∷ []) (named Macro []))
    ∷ row "BEGINEXT" (refuse 8)
    ∷ row "END" (close (key "LIBRARY" ∷ []))
    ∷ [])
-- `parse_units`
body Units = worded (
    row "DATABASE" (statement DATABASE (keyword "MICRONS" ∷ x ∷ semi ∷ among microns ∷ []) stay)
    ∷ row "TIME" (refuse 8)
    ∷ row "CAPACITANCE" (refuse 8)
    ∷ row "RESISTANCE" (refuse 8)
    ∷ row "POWER" (refuse 8)
    ∷ row "CURRENT" (refuse 8)
    ∷ row "VOLTAGE" (refuse 8)
    ∷ row "FREQUENCY" (refuse 8)
    ∷ row "END" (close (keyword "UNITS" ∷ []))
    ∷ [])
-- `parse_site_def`: CLASS and SIZE must both occur
body Site = keyed 6 (
    row "CLASS" (statement SITE_CLASS (value ∷ semi ∷ []) stay)
    ∷ symmetry
    ∷ size
    ∷ row "ROWPATTERN" (refuse 8)
    ∷ row "END" (close (own ∷ whole 10 ∷ []))
    ∷ [])
body Symmetry = parts SYMMETRY_WORD (value ∷ [])
-- `parse_macro`, but that SOURCE, which it reads, is refused while it is still held
body Macro = keyed 5 (
    row "CLASS" (statement MACRO_CLASS (first ∷ second ∷ semi ∷ []) stay)
    ∷ row "SITE" (statement MACRO_SITE (name ∷ semi ∷ []) stay)
    ∷ row "FOREIGN" (statement FOREIGN (name ∷ if_more 3 ∷ x ∷ y ∷ code WITH_POINT ∷ no_name ∷ semi ∷ []) stay)
    ∷ row "ORIGIN" (statement ORIGIN (x ∷ y ∷ semi ∷ []) stay)
    ∷ size
    ∷ symmetry
    ∷ row "SOURCE" (up_to54 (refuse 8))
    ∷ row "PIN" (statement PIN (name ∷ []) (named Pin []))
    ∷ row "OBS" (statement OBS [] (enter Obs []))
    ∷ row "END" (close (own ∷ []))
    ∷ [])
-- `parse_pin`
body Pin = keyed 5 (
    row "DIRECTION" (statement DIRECTION (first_key ∷ second ∷ semi ∷ []) stay)
    ∷ row "USE" (statement USE (value ∷ semi ∷ []) stay)
    ∷ row "SHAPE" (statement SHAPE (value ∷ semi ∷ []) stay)
    ∷ row "ANTENNAMODEL" (statement ANTENNAMODEL (value ∷ []) stay)
    ∷ row "ANTENNADIFFAREA" (antenna 1)
    ∷ row "ANTENNAGATEAREA" (antenna 2)
    ∷ row "ANTENNAPARTIALMETALAREA" (antenna 3)
    ∷ row "ANTENNAPARTIALMETALSIDEAREA" (antenna 4)
    ∷ row "ANTENNAPARTIALCUTAREA" (antenna 5)
    ∷ row "ANTENNAPARTIALDIFFAREA" (antenna 6)
    ∷ row "ANTENNAMAXAREACAR" (antenna 7)
    ∷ row "ANTENNAMAXSIDEAREACAR" (antenna 8)
    ∷ row "ANTENNAMAXCUTCAR" (antenna 9)
    ∷ row "PORT" (statement PORT [] (enter Port []))
    ∷ row "TAPERRULE" (refuse 8)
    ∷ row "NETEXPR" (refuse 8)
    ∷ row "SUPPLYSENSITIVITY" (refuse 8)
    ∷ row "GROUNDSENSITIVITY" (refuse 8)
    ∷ row "MUSTJOIN" (refuse 8)
    ∷ row "PROPERTY" (refuse 8)
    ∷ row "END" (close (own ∷ []))
    ∷ [])
-- `parse_port`
body Port = keyed 5 (
    row "CLASS" (statement PORT_CLASS (value ∷ semi ∷ []) stay)
    ∷ layer
    ∷ row "END" (close [])
    ∷ [])
-- `parse_obstructions`
body Obs = keyed 5 (
    layer
    ∷ row "END" (close [])
    ∷ [])
-- `parse_layer_geometries`: the options of the LAYER line, and then the body, which ends before a LAYER or an END
body Options = options (
    row "EXCEPTPGNET" (statement LAYER_OPTION (code EXCEPTPGNET ∷ []) stay)
    ∷ row "SPACING" (statement LAYER_OPTION (code SPACING ∷ x ∷ []) stay)
    ∷ row "DESIGNRULEWIDTH" (statement LAYER_OPTION (code DESIGNRULEWIDTH ∷ x ∷ []) stay)
    ∷ []) Layer
body Layer = keyed 5 (
    row "WIDTH" (statement WIDTH (x ∷ semi ∷ []) stay)
    ∷ row "RECT" (statement RECT (no_name ∷ []) (enter Rect (POINT ∷ POINT ∷ [])))
    ∷ row "POLYGON" (statement POLYGON [] (enter Polygon (POINT ∷ POINT ∷ POINT ∷ [])))
    ∷ row "PATH" (statement PATH [] (enter Path (POINT ∷ POINT ∷ [])))
    ∷ row "VIA" (statement VIA (no_name ∷ x ∷ y ∷ name ∷ semi ∷ []) stay)
    ∷ row "LAYER" back
    ∷ row "END" back
    ∷ [])
-- `parse_geometry`: two points, at least three, at least two
body Rect = counted POINT (x ∷ y ∷ [])
body Polygon = parts POINT (x ∷ y ∷ [])
body Path = parts POINT (x ∷ y ∷ [])

-- The kinds of records and the codes that belong to no list of words, by name.
use Rattle.std.specs.Prelude.{ℕ}

-- VERSION x
abbrev pub VERSION : ℕ
VERSION = 1

-- BUSBITCHARS, named by the two bytes inside the quotes
abbrev pub BUSBITCHARS : ℕ
BUSBITCHARS = 2

-- DIVIDERCHAR, named by the byte inside the quotes
abbrev pub DIVIDERCHAR : ℕ
DIVIDERCHAR = 3

-- NAMESCASESENSITIVE, on or off
abbrev pub NAMESCASESENSITIVE : ℕ
NAMESCASESENSITIVE = 4

-- NOWIREEXTENSIONATPIN, on or off
abbrev pub NOWIREEXTENSIONATPIN : ℕ
NOWIREEXTENSIONATPIN = 5

-- UNITS
abbrev pub UNITS : ℕ
UNITS = 6

-- DATABASE MICRONS x
abbrev pub DATABASE : ℕ
DATABASE = 7

-- SITE name
abbrev pub SITE : ℕ
SITE = 8

-- a site's CLASS
abbrev pub SITE_CLASS : ℕ
SITE_CLASS = 9

-- SYMMETRY
abbrev pub SYMMETRY : ℕ
SYMMETRY = 10

-- one symmetry word
abbrev pub SYMMETRY_WORD : ℕ
SYMMETRY_WORD = 11

-- SIZE x y
abbrev pub SIZE : ℕ
SIZE = 12

-- MACRO name
abbrev pub MACRO : ℕ
MACRO = 13

-- a macro's CLASS
abbrev pub MACRO_CLASS : ℕ
MACRO_CLASS = 14

-- a macro's SITE name
abbrev pub MACRO_SITE : ℕ
MACRO_SITE = 15

-- FOREIGN name, with code 1 where a point x y follows
abbrev pub FOREIGN : ℕ
FOREIGN = 16

-- ORIGIN x y
abbrev pub ORIGIN : ℕ
ORIGIN = 17

-- PIN name
abbrev pub PIN : ℕ
PIN = 18

-- DIRECTION
abbrev pub DIRECTION : ℕ
DIRECTION = 19

-- USE
abbrev pub USE : ℕ
USE = 20

-- SHAPE
abbrev pub SHAPE : ℕ
SHAPE = 21

-- ANTENNAMODEL
abbrev pub ANTENNAMODEL : ℕ
ANTENNAMODEL = 22

-- an antenna amount x, named by its layer if one is given
abbrev pub ANTENNA : ℕ
ANTENNA = 23

-- PORT
abbrev pub PORT : ℕ
PORT = 24

-- a port's CLASS
abbrev pub PORT_CLASS : ℕ
PORT_CLASS = 25

-- OBS
abbrev pub OBS : ℕ
OBS = 26

-- LAYER name
abbrev pub LAYER : ℕ
LAYER = 27

-- an option of a LAYER
abbrev pub LAYER_OPTION : ℕ
LAYER_OPTION = 28

-- WIDTH x
abbrev pub WIDTH : ℕ
WIDTH = 29

-- RECT
abbrev pub RECT : ℕ
RECT = 30

-- POLYGON
abbrev pub POLYGON : ℕ
POLYGON = 31

-- PATH
abbrev pub PATH : ℕ
PATH = 32

-- one point x y
abbrev pub POINT : ℕ
POINT = 33

-- VIA x y name
abbrev pub VIA : ℕ
VIA = 34

-- the code of a FOREIGN with a point
abbrev pub WITH_POINT : ℕ
WITH_POINT = 1

-- the codes of a LAYER's options
abbrev pub EXCEPTPGNET : ℕ
EXCEPTPGNET = 1

abbrev pub SPACING : ℕ
SPACING = 2

abbrev pub DESIGNRULEWIDTH : ℕ
DESIGNRULEWIDTH = 3

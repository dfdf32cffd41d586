-- Inner machinery, which nobody has to believe: how a word is found by its bytes, six at a time. A word, or the beginning of one, is a
-- node, and the next six bytes lead from node to node.
use Rattle.std.specs.Prelude.{ℕ, suc, ◌+◌, ◌-◌, ◌*◌, ◌/◌, cond, List, [], ◌∷◌, ◌++◌, map, eqb, length, take, drop}
use Prim.Native.String.{String}
use Rattle.text.specs.Text.{bytes}
use Rattle.word.specs.Words.{words, same, first_where}

-- the beginnings of words, of 6, 12, 18 or 24 bytes, that are no words themselves
unfoldable pub stems : List String
stems =
    "LIBRAR" ∷ "VERSIO" ∷ "FOREIG" ∷ "NAMESC" ∷ "NAMESCASESEN" ∷ "NOWIRE" ∷ "NOWIREEXTENS" ∷ "NOWIREEXTENSIONATP" ∷ "DIRECT" ∷ "POLYGO" ∷
    "SYMMET" ∷ "ROWPAT" ∷ "BUSBIT" ∷ "DIVIDE" ∷ "BEGINE" ∷ "TRISTA" ∷ "FEEDTH" ∷ "EXCEPT" ∷ "DESIGN" ∷ "DESIGNRULEWI" ∷ "SPACIN" ∷ "ANTENN" ∷
    "ANTENNADIFFA" ∷ "ANTENNAGATEA" ∷ "ANTENNAPARTI" ∷ "ANTENNAPARTIALMETA" ∷ "ANTENNAPARTIALMETALSIDEA" ∷ "ANTENNAPARTIALCUTA" ∷
    "ANTENNAPARTIALDIFF" ∷ "ANTENNAMAXAR" ∷ "ANTENNAMAXSI" ∷ "ANTENNAMAXSIDEAREA" ∷ "ANTENNAMAXCU" ∷ "TAPERR" ∷ "NETEXP" ∷ "SUPPLY" ∷
    "SUPPLYSENSIT" ∷ "GROUNDSENSIT" ∷ "MUSTJO" ∷ "PROPER" ∷ "BLACKB" ∷ "TIEHIG" ∷ "WELLTA" ∷ "TOPLEF" ∷ "TOPRIG" ∷ "BOTTOM" ∷ "ABUTME" ∷
    "DATABA" ∷ "MICRON" ∷ "CAPACI" ∷ "RESIST" ∷ "CURREN" ∷ "VOLTAG" ∷ "FREQUE" ∷ []

-- how many words there are, and how many nodes
abbrev pub word_count : ℕ
word_count = 100

abbrev pub node_count : ℕ
node_count = 154

unfoldable pub nodes : List (List ℕ)
nodes = words ++ map bytes stems

-- the number of a node, 0 where the bytes are none
unfoldable pub node_of : List ℕ → ℕ
node_of v = first_where (same v) 1 nodes

-- bytes as a number, the lowest first and a 1 after the last
unfoldable pub marked : List ℕ → ℕ
marked [] = 1
marked (b ∷ c) = b + 256 * marked c

-- how many bytes stand before a node's last stretch of at most six
unfoldable pub stretch : List ℕ → ℕ
stretch w = 6 * ((length w - 1) / 6)

-- a node's key: the node before its last stretch, and that stretch
unfoldable pub key_of : List ℕ → ℕ
key_of w = node_of (take (stretch w) w) + 256 * marked (drop (stretch w) w)

-- the keys of all nodes, in order: `map key_of nodes`, computed
unfoldable pub keyed : List ℕ
keyed =
    0x15965 ∷ 0x14e66 ∷ 0x14e67 ∷ 0x14e494749524f00 ∷ 0x1454352554f5300 ∷ 0x145564954495369 ∷ 0x14e496c ∷ 0x14f5243414d00 ∷ 0x1444e4500 ∷
    0x14e495000 ∷ 0x154524f5000 ∷ 0x153424f00 ∷ 0x1524559414c00 ∷ 0x14e4f496d ∷ 0x145535500 ∷ 0x1455041485300 ∷ 0x14854415000 ∷ 0x14e6e ∷
    0x15443455200 ∷ 0x141495600 ∷ 0x1485444495700 ∷ 0x15353414c4300 ∷ 0x159526f ∷ 0x14e52455470 ∷ 0x14554495300 ∷ 0x1455a495300 ∷ 0x1594200 ∷
    0x1535241484371 ∷ 0x1524148435272 ∷ 0x15354494e5500 ∷ 0x1545873 ∷ 0x1455474 ∷ 0x15455504e4900 ∷ 0x154555054554f00 ∷ 0x154554f4e4900 ∷
    0x1555275 ∷ 0x154454e475076 ∷ 0x148544478 ∷ 0x14779 ∷ 0x1504d554200 ∷ 0x14c45444f4d417a ∷ 0x14145527b ∷ 0x14145527c ∷ 0x1414552414c7e ∷
    0x14145527f ∷ 0x141455280 ∷ 0x14145524181 ∷ 0x1524143414582 ∷ 0x152414384 ∷ 0x15241435485 ∷ 0x1454c5586 ∷ 0x15287 ∷ 0x1595449564989 ∷
    0x159544956498a ∷ 0x14e498b ∷ 0x159548c ∷ 0x14e4f00 ∷ 0x146464f00 ∷ 0x144415000 ∷ 0x145524f4300 ∷ 0x15800 ∷ 0x15900 ∷ 0x130395200 ∷
    0x15245564f4300 ∷ 0x1474e495200 ∷ 0x14b434f4c4200 ∷ 0x1584f8d ∷ 0x154464f5300 ∷ 0x15245574f5000 ∷ 0x152454341505300 ∷ 0x14f494145524100 ∷
    0x1488e ∷ 0x1574f4c45495400 ∷ 0x14c4c4543417a ∷ 0x1508f ∷ 0x1504143444e4500 ∷ 0x145525000 ∷ 0x154534f5000 ∷ 0x15490 ∷ 0x1544891 ∷
    0x15446454c92 ∷ 0x1544847495292 ∷ 0x14c414e47495300 ∷ 0x1474f4c414e4100 ∷ 0x1444e554f524700 ∷ 0x14b434f4c4300 ∷ 0x1544e93 ∷
    0x131454449584f00 ∷ 0x132454449584f00 ∷ 0x133454449584f00 ∷ 0x134454449584f00 ∷ 0x1454e4f4e00 ∷ 0x1455394 ∷ 0x15395 ∷ 0x1454d495400 ∷
    0x145434e415496 ∷ 0x145434e4197 ∷ 0x15498 ∷ 0x14599 ∷ 0x159434e9a ∷ 0x152415242494c00 ∷ 0x14f495352455600 ∷ 0x1474945524f4600 ∷
    0x14353454d414e00 ∷ 0x14e455345534168 ∷ 0x1455249574f4e00 ∷ 0x1534e455458456a ∷ 0x15054414e4f496b ∷ 0x154434552494400 ∷ 0x14f47594c4f5000 ∷
    0x154454d4d595300 ∷ 0x1544150574f5200 ∷ 0x154494253554200 ∷ 0x145444956494400 ∷ 0x1454e4947454200 ∷ 0x141545349525400 ∷ 0x148544445454600 ∷
    0x154504543584500 ∷ 0x14e474953454400 ∷ 0x14957454c555277 ∷ 0x14e494341505300 ∷ 0x14e4e45544e4100 ∷ 0x14146464944417a ∷ 0x14145544147417a ∷
    0x14954524150417a ∷ 0x14154454d4c417d ∷ 0x141454449534c7e ∷ 0x1415455434c417d ∷ 0x1464649444c417d ∷ 0x1524158414d417a ∷ 0x1495358414d417a ∷
    0x141455241454483 ∷ 0x1554358414d417a ∷ 0x152524550415400 ∷ 0x150584554454e00 ∷ 0x1594c5050555300 ∷ 0x15449534e455388 ∷ 0x15449534e455355 ∷
    0x14f4a5453554d00 ∷ 0x15245504f525000 ∷ 0x1424b43414c4200 ∷ 0x147494845495400 ∷ 0x141544c4c455700 ∷ 0x146454c504f5400 ∷ 0x1474952504f5400 ∷
    0x14d4f54544f4200 ∷ 0x1454d5455424100 ∷ 0x141424154414400 ∷ 0x14e4f5243494d00 ∷ 0x149434150414300 ∷ 0x154534953455200 ∷ 0x14e455252554300 ∷
    0x14741544c4f5600 ∷ 0x145555145524600 ∷ []

-- the place of a key in a list, counted from n on; 0 where it is not there
unfoldable pub place_in : ℕ → List ℕ → ℕ → ℕ
place_in n [] key = 0
place_in n (k ∷ ks) key = cond (eqb k key) n (place_in (suc n) ks key)

-- the node that has a key, or 0
unfoldable pub next_of : ℕ → ℕ
next_of key = place_in 1 keyed key

mod OpeningRows
